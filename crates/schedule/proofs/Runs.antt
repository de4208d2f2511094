-- One more event of a run.
use Rattle.std.proofs.Common.{◌≡◌, ℕ, List, [], ◌++◌, Option, Some, None, refl, sym, ap, subst, inl, inr, ◌∙◌, append_assoc, append-nil}
use Rattle.std.specs.Io.KnownBytes.{Appends}
use Rattle.std.proofs.KnownBytes.{Appends-trans, Appends-nil}
use Rattle.schedule.specs.declared.database.Database.{Ghosts}
use Rattle.schedule.specs.declared.engine.Engine.{Engine}
use Rattle.schedule.specs.declared.event.Event.{Event}
use Rattle.schedule.specs.declared.event.Report.{Report}
use Rattle.schedule.specs.Rules.{Rules}
use Rattle.schedule.specs.Run.{World, Effect, effect, next, printed, printed_in, Reaches, Here, Next, Anything, Throughout}
use Rattle.schedule.specs.Stands.{Stands, Leaves, Reports}
use Rattle.schedule.proofs.Pieces.{first_cut, second_cut, all_of_it}
use Rattle.schedule.specs.Printed.{AppendsPrefix, IsPartlyPrinted, ArePrinted, ArePartlyPrinted, Begins, WritesOf, CameCut, BeginsOf}

-- events that lead from a world to another, over good ones
pub record Way {S : Type 0} (R : Rules S) (Good : S → Type 0) (w : World S) (lines : List ℕ) (last : World S) : Type 0 where
  pub reaches : Reaches R w lines last
  pub good : Throughout Good reaches

pub over_anything : {S : Type 0} (R : Rules S) (w : World S) (lines : List ℕ) (last : World S) (r : Reaches R w lines last) → Throughout Anything r
over_anything R w lines last (Here w' lines' last' none same) = tt
over_anything R w lines last (Next w' lines' last' e rest comes front more) = (tt, over_anything R _ rest last' more)

-- one more event
pub further : {S : Type 0} (R : Rules S) (Good : S → Type 0) (w mid : World S) (lines : List ℕ) (e : Event) (r : Reaches R w lines mid) → Throughout Good r → next R mid ≡ Some e → Good (effect R mid e).world.db
    → Way R Good w (lines ++ printed R (effect R mid e)) (effect R mid e).world
further R Good w mid lines e (Here w' lines' last' none same) well is new =
    let lines'' : lines' ++ printed R (effect R last' e) ≡ printed R (effect R w' e) ++ [] = ap (λ l. l ++ printed R (effect R last' e)) none ∙ ap (λ v. printed R (effect R v e)) same ∙ sym (append-nil _) in
    record {
      reaches = Next w' _ _ e [] (ap (next R) (sym same) ∙ is) lines'' (Here _ _ _ refl (ap (λ v. (effect R v e).world) same));
      good = (well, subst (λ v. Good (effect R v e).world.db) same new);
    }
further R Good w mid lines e (Next w' lines' last' f rest comes front more) well is new =
    let lines'' : lines' ++ printed R (effect R last' e) ≡ printed R (effect R w' f) ++ (rest ++ printed R (effect R last' e)) = ap (λ l. l ++ printed R (effect R last' e)) front ∙ append_assoc (printed R (effect R w' f)) rest (printed R (effect R last' e)) in
    let way = further R Good _ last' rest e more well.1 is new in
    record { reaches = Next w' _ _ f (rest ++ printed R (effect R last' e)) comes lines'' way.reaches; good = (well.0, way.good) }

-- where a run has come to
pub record SoFar {D : Type 0} (g : Ghosts D) (w : World g.State) (e : Engine D g) (before now : Option (List ℕ)) : Type 0 where
  pub world : World g.State
  pub lines : List ℕ
  pub stands : Stands g e world
  pub way : Way g.rules g.good w lines world
  pub written : Appends before now lines

-- the effect came, and its report was cut
pub came_cut : {D : Type 0} (g : Ghosts D) (f : World g.State → Effect g.State) (a b : Engine D g) (report : Report) (before now : Option (List ℕ)) → Leaves g f a b → Reports g f a report → Begins g b report before now → CameCut g f a b before now
came_cut g f a b report before now leaves reports begins =
    record { leaves = leaves; begins = λ w st. subst (λ r. AppendsPrefix before now (printed_in g.rules (f w).world r)) (reports w st) (begins (f w).world (leaves w st)) }

module _ {D : Type 0} (g : Ghosts D) (law : (d : D) (v : g.State) → g.stands d v → g.good v) where
  -- nothing has come yet
  pub at_first : (w : World g.State) (e : Engine D g) (now : Option (List ℕ)) → Stands g e w → SoFar g w e now now
  at_first w e now st = record { world = w; lines = []; stands = st; way = record { reaches = Here w [] w refl refl; good = law _ _ st.db }; written = Appends-nil now }

  -- the world after the event, for which the engine stands
  onward : (w : World g.State) (a b : Engine D g) (e : Event) (before now : Option (List ℕ)) → (so : SoFar g w a before now) → next g.rules so.world ≡ Some e → Leaves g (λ v. effect g.rules v e) a b
      → Way g.rules g.good w (so.lines ++ printed g.rules (effect g.rules so.world e)) (effect g.rules so.world e).world
  onward w a b e before now so is leaves = further g.rules g.good w so.world so.lines e so.way.reaches so.way.good is (law _ _ (leaves so.world so.stands).db)

  pub on_with : (w : World g.State) (a b : Engine D g) (e : Event) (before then' now : Option (List ℕ)) → (so : SoFar g w a before then') → next g.rules so.world ≡ Some e
      → Leaves g (λ v. effect g.rules v e) a b → WritesOf g (λ v. effect g.rules v e) a then' now → SoFar g w b before now
  on_with w a b e before then' now so is leaves writes = record {
    world = (effect g.rules so.world e).world;
    lines = so.lines ++ printed g.rules (effect g.rules so.world e);
    stands = leaves so.world so.stands;
    way = onward w a b e before then' so is leaves;
    written = Appends-trans _ _ _ _ _ so.written (writes so.world so.stands);
  }

  -- the event did not come, or its report was cut
  pub cut_at : (w : World g.State) (a b : Engine D g) (e : Event) (before then' now : Option (List ℕ)) → (so : SoFar g w a before then') → next g.rules so.world ≡ Some e
      → BeginsOf g (λ v. effect g.rules v e) a b then' now → ArePartlyPrinted g.rules g.good w before now
  cut_at w a b e before then' now so is (inl nothing) =
      record {
        lines = so.lines;
        last = so.world;
        reaches = so.way.reaches;
        good = so.way.good;
        begun = all_of_it before now so.lines (subst (Appends before now) (append-nil so.lines) (Appends-trans _ _ _ _ _ so.written nothing));
      }
  cut_at w a b e before then' now so is (inr cut) =
      let way = onward w a b e before then' so is cut.leaves in
      record {
        lines = so.lines ++ printed g.rules (effect g.rules so.world e);
        last = (effect g.rules so.world e).world;
        reaches = way.reaches;
        good = way.good;
        begun = second_cut before then' now so.lines (printed g.rules (effect g.rules so.world e)) so.written (cut.begins so.world so.stands);
      }

  -- nothing comes any more
  pub are_printed : (w : World g.State) (a : Engine D g) (before now : Option (List ℕ)) (so : SoFar g w a before now) → next g.rules so.world ≡ None → ArePrinted g w a before now
  are_printed w a before now so none = record { lines = so.lines; last = so.world; runs = record { reaches = so.way.reaches; ends = none }; good = so.way.good; written = so.written; stands = so.stands }

-- the first lines were written before
pub behind_head : {S : Type 0} (R : Rules S) (Good : S → Type 0) (w : World S) (head : List ℕ) (before then' now : Option (List ℕ)) → Appends before then' head → ArePartlyPrinted R Good w then' now → IsPartlyPrinted R Good w head before now
behind_head R Good w head before then' now wrote p = record {
  lines = p.lines;
  last = p.last;
  reaches = p.reaches;
  good = p.good;
  begun = second_cut before then' now head p.lines wrote p.begun;
}

-- nothing of the run was written yet: the first lines were cut, or want of memory came behind them
pub cut_head : {S : Type 0} (R : Rules S) (Good : S → Type 0) (w : World S) (head : List ℕ) (before now : Option (List ℕ)) → Good w.db → AppendsPrefix before now head → IsPartlyPrinted R Good w head before now
cut_head R Good w head before now well p = record { lines = []; last = w; reaches = Here w [] w refl refl; good = well; begun = first_cut before now head [] p }
