-- What is counted of one more event of a run.
use Rattle.std.proofs.Common.{◌≡◌, ℕ, List, [], ◌++◌, Some, refl, sym, ap, subst, ◌∙◌, append_assoc, append-nil}
use Rattle.schedule.specs.Counts.{AreCounted, counts_of, with_event}
use Rattle.schedule.specs.Rules.{Rules}
use Rattle.schedule.specs.Run.{World, Reaches, Here, Next, Throughout, effect, next, printed}
use Rattle.schedule.specs.Stands.{Stands, Leaves}
use Rattle.schedule.specs.declared.counts.Counts.{Counts}
use Rattle.schedule.specs.declared.database.Database.{Ghosts}
use Rattle.schedule.specs.declared.engine.Engine.{Engine}
use Rattle.schedule.specs.declared.event.Event.{Event}

-- events that lead on to the world behind one more, with what is counted of them
record OneMore {S : Type 0} (R : Rules S) (Good : S → Type 0) (n so_far : Counts) (w mid : World S) (lines : List ℕ) (e : Event) : Type 0 where
  reaches : Reaches R w (lines ++ printed R (effect R mid e)) (effect R mid e).world
  good : Throughout Good reaches
  counts : counts_of n reaches ≡ with_event R mid so_far e

one_more : {S : Type 0} (R : Rules S) (Good : S → Type 0) (n : Counts) (w mid : World S) (lines : List ℕ) (e : Event) (r : Reaches R w lines mid) → Throughout Good r → next R mid ≡ Some e → Good (effect R mid e).world.db
    → OneMore R Good n (counts_of n r) w mid lines e
one_more R Good n w mid lines e (Here w' lines' last' empty same) well is new =
    let whole : lines' ++ printed R (effect R last' e) ≡ printed R (effect R w' e) ++ [] = ap (λ l. l ++ printed R (effect R last' e)) empty ∙ ap (λ v. printed R (effect R v e)) same ∙ sym (append-nil _) in
    record {
      reaches = Next w' _ _ e [] (ap (next R) (sym same) ∙ is) whole (Here _ _ _ refl (ap (λ v. (effect R v e).world) same));
      good = (well, subst (λ v. Good (effect R v e).world.db) same new);
      counts = ap (λ v. with_event R v n e) (sym same);
    }
one_more R Good n w mid lines e (Next w' lines' last' f rest comes front more) well is new =
    let whole : lines' ++ printed R (effect R last' e) ≡ printed R (effect R w' f) ++ (rest ++ printed R (effect R last' e)) = ap (λ l. l ++ printed R (effect R last' e)) front ∙ append_assoc (printed R (effect R w' f)) rest (printed R (effect R last' e)) in
    let way = one_more R Good (with_event R w' n f) _ last' rest e more well.1 is new in
    record { reaches = Next w' _ _ f (rest ++ printed R (effect R last' e)) comes whole way.reaches; good = (well.0, way.good); counts = way.counts }

module _ {D : Type 0} (g : Ghosts D) (law : (d : D) (v : g.State) → g.stands d v → g.good v) where
  -- nothing has come yet
  pub counted_first : (w : World g.State) (e : Engine D g) (n : Counts) → Stands g e w → AreCounted g w e n n
  counted_first w e n st = record { last = w; lines = []; stands = st; reaches = Here w [] w refl refl; good = law _ _ st.db; counts = refl }

  pub counted_on : (w : World g.State) (a b : Engine D g) (e : Event) (before then' now : Counts) → (so : AreCounted g w a before then') → next g.rules so.last ≡ Some e → Leaves g (λ v. effect g.rules v e) a b
      → ((v : World g.State) → Stands g a v → now ≡ with_event g.rules v then' e) → AreCounted g w b before now
  counted_on w a b e before then' now so is leaves counts =
      let new = law _ _ (leaves so.last so.stands).db in
      let way = one_more g.rules g.good before w so.last so.lines e so.reaches so.good is new in
      record {
        last = (effect g.rules so.last e).world;
        lines = so.lines ++ printed g.rules (effect g.rules so.last e);
        stands = leaves so.last so.stands;
        reaches = way.reaches;
        good = way.good;
        counts = counts so.last so.stands ∙ (ap (λ k. with_event g.rules so.last k e) so.counts ∙ sym way.counts);
      }
