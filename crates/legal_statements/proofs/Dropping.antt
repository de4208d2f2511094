-- Ends of entries, and then drops of tables, may follow.
use Rattle.std.proofs.Common.{◌≡◌, ◌≢◌, ℕ, ◌<◌, List, [], ◌∷◌, ◌++◌, inl, inr, refl, sym, subst, ◌∙◌, None, arith, append_assoc, length}
use Rattle.std.proofs.lemmas.List.{append-nil}
use Rattle.std.specs.List.{AllPairs, Contains}
use Rattle.bound_forms.proofs.PlainOrder.{pairs-head, pairs-tail}
use Rattle.history.specs.declared.catalogue.Entry.{Entry}
use Rattle.history.specs.declared.catalogue.Stamp.{Stamp}
use Rattle.history.specs.Catalogue.{TableDropped, EntryEnded, entries_added, entry_ends, counted_of}
use Rattle.history.specs.History.{Event, History, CatalogueChange, tx_events, catalogue_events}
use Rattle.history.specs.Legal.{IsLegal}
use Rattle.soundness.specs.Worlds.{view}
use Rattle.soundness.specs.Legal.{ArePermitted, Has, HasTable, GuardsNow}
use Rattle.soundness.proofs.Worlds.{both_ways, view_own}
use Rattle.soundness.proofs.Listed.{none_in, first_in, later_in, cases_in}
use Rattle.soundness.proofs.Sound.{catalogue_sound_of, entry_below}
use Rattle.soundness.proofs.All.{legal_keeps_all}
use Rattle.legal_statements.specs.Follows.{MayCome, MayFollow}
use Rattle.legal_statements.specs.Drops.{entries_end, tables_go, IsOf, IsDrop}
use Rattle.legal_statements.specs.Laws.{DropMayFollow}
use Rattle.legal_statements.proofs.Holding.{session_runs, owns_of, guards_of}
use Rattle.legal_statements.proofs.Others.{nobody_else_drops, nobody_else_ends}

-- an event, and what may follow it
pub follow_first : (es : List Event) (e : Event) (h : History) → MayCome e h → MayFollow es (e ∷ h) → MayFollow (es ++ e ∷ []) h
follow_first [] e h first follow = (first, tt)
follow_first (x ∷ es) e h first follow = (rw (append_assoc es (e ∷ []) h) follow.0, follow_first es e h first follow.1)

differs : (xs : List ℕ) (x y : ℕ) → AllPairs (λ a b. a ≢ b) (x ∷ xs) → Contains xs y → x ≢ y
differs xs x y once at same =
    let all = pairs-head (λ a b. a ≢ b) x xs once in
    all at.0 y at.1 (same ∙ sym at.2)

-- ---- one drop

drop_comes : (h : History) (session x : ℕ) (s : Stamp) (xs : List ℕ) → IsLegal h → ArePermitted h → IsDrop h session s [] (x ∷ xs) → MayCome (CatalogueChange (TableDropped x s)) h
drop_comes h session x s xs legal permitted is =
    let first = is.tables_there x (first_in x xs) in
    record {
      legal = (first.0.0, nobody_else_drops h session s.by.number x legal permitted is.own first.0 first.1);
      in_order = is.command;
      permitted = record {
        acts = session_runs h session s.by.number legal is.own;
        locked = owns_of h session s.by.number x legal is.own first.1;
        free = λ e has. (
          λ same. none_in e.id.number (is.none_left e has (inl (subst (Contains (x ∷ xs)) (sym same) (first_in x xs)))),
          λ same. none_in e.id.number (is.none_left e has (inr (subst (Contains (x ∷ xs)) (sym same) (first_in x xs)))),
        );
      };
    }

still_there : (h : History) (t x : ℕ) (s : Stamp) (y : ℕ) → x ≢ y → HasTable h t y → HasTable (CatalogueChange (TableDropped x s) ∷ h) t y
still_there h t x s y other (made, born, kept) = (made, born, λ u drop. elim drop [ inl new ↦ absurd (other new.0) | inr old ↦ kept u old ])

later_of : (x : ℕ) (xs : List ℕ) (e : Entry) → IsOf xs e → IsOf (x ∷ xs) e
later_of x xs e (inl at) = inl (later_in x xs e.parent.number at)
later_of x xs e (inr at) = inr (later_in x xs e.child.number at)

after_drop : (h : History) (session x : ℕ) (s : Stamp) (xs : List ℕ) → IsDrop h session s [] (x ∷ xs) → IsDrop (CatalogueChange (TableDropped x s) ∷ h) session s [] xs
after_drop h session x s xs is = record {
  own = is.own;
  command = (λ same. omega arith, is.command);
  entries_there = λ k at. absurd (none_in k at);
  entries_once = is.entries_once;
  tables_there = λ y at. let there = is.tables_there y (later_in x xs y at) in (still_there h s.by.number x s y (differs xs x y is.tables_once at) there.0, there.1);
  tables_once = pairs-tail (λ a b. a ≢ b) x xs is.tables_once;
  none_left = λ e has of. is.none_left e has (later_of x xs e of);
}

drops_follow : (h : History) (session : ℕ) (s : Stamp) (xs : List ℕ) → IsLegal h → ArePermitted h → IsDrop h session s [] xs → MayFollow (tables_go s xs) h
drops_follow h session s [] legal permitted is = tt
drops_follow h session s (x ∷ xs) legal permitted is =
    let first = drop_comes h session x s xs legal permitted is in
    follow_first (tables_go s xs) (CatalogueChange (TableDropped x s)) h first
    (drops_follow (CatalogueChange (TableDropped x s) ∷ h) session s xs (first.legal, first.in_order, legal) (first.permitted, permitted) (after_drop h session x s xs is))

-- ---- one end

end_comes : (h : History) (session k : ℕ) (s : Stamp) (ks xs : List ℕ) → IsLegal h → ArePermitted h → IsDrop h session s (k ∷ ks) xs → MayCome (CatalogueChange (EntryEnded k s)) h
end_comes h session k s ks xs legal permitted is =
    let first = is.entries_there k (first_in k ks) in
    let e = first.0 in
    let i = legal_keeps_all h legal permitted in
    let none = nobody_else_ends h session s.by.number e legal permitted is.own first.1 first.3 in
    record {
      legal = (
        subst (λ n. n < length (entries_added (catalogue_events h))) first.2 (entry_below h e (catalogue_sound_of h legal) first.1.0),
        subst (λ n. counted_of (tx_events h) (entry_ends (catalogue_events h)) n ≡ None) first.2 none,
      );
      in_order = is.command;
      permitted = record {
        acts = session_runs h session s.by.number legal is.own;
        locked = λ f entry at.
            let same : e ≡ f = i.entries.numbered e f first.1.0 entry (first.2 ∙ sym at) in
            subst (λ (z : Entry). GuardsNow h s.by.number z.parent.number) same (guards_of h session s.by.number e.parent.number legal is.own first.3);
      };
    }

still_has : (h : History) (t k : ℕ) (s : Stamp) (e : Entry) → k ≢ e.id.number → Has h t e → Has (CatalogueChange (EntryEnded k s) ∷ h) t e
still_has h t k s e other (entry, born, kept) = (entry, born, λ u end. elim end [ inl new ↦ absurd (other new.0) | inr old ↦ kept u old ])

had : (h : History) (t k : ℕ) (s : Stamp) (e : Entry) → Has (CatalogueChange (EntryEnded k s) ∷ h) t e → Has h t e
had h t k s e (entry, born, kept) = (entry, born, λ u end. kept u (inr end))

after_end : (h : History) (session k : ℕ) (s : Stamp) (ks xs : List ℕ) → IsLegal h → IsDrop h session s (k ∷ ks) xs → IsDrop (CatalogueChange (EntryEnded k s) ∷ h) session s ks xs
after_end h session k s ks xs legal is = record {
  own = is.own;
  command = (λ same. omega arith, is.command);
  entries_there = λ j at.
      let there = is.entries_there j (later_in k ks j at) in
      let other : k ≢ there.0.id.number = λ same. differs ks k j is.entries_once at (same ∙ there.2) in
      (there.0, still_has h s.by.number k s there.0 other there.1, there.2, there.3);
  entries_once = pairs-tail (λ a b. a ≢ b) k ks is.entries_once;
  tables_there = is.tables_there;
  tables_once = is.tables_once;
  none_left = λ e has of. elim (cases_in k ks e.id.number (is.none_left e (had h s.by.number k s e has) of)) [
    | inr at ↦ at
    | inl same ↦ absurd (both_ways (view (tx_events h) s.by.number s.by.number) (view_own (tx_events h) s.by.number (session_runs h session s.by.number legal is.own).runs) (has.2 s.by.number (inl (same, refl))))
  ];
}

pub drop_may_follow : DropMayFollow
drop_may_follow h session s [] xs legal permitted is = rw (append-nil (tables_go s xs)) (drops_follow h session s xs legal permitted is)
drop_may_follow h session s (k ∷ ks) xs legal permitted is =
    let first = end_comes h session k s ks xs legal permitted is in
    let more = drop_may_follow (CatalogueChange (EntryEnded k s) ∷ h) session s ks xs (first.legal, first.in_order, legal) (first.permitted, permitted) (after_end h session k s ks xs legal is) in
    subst (λ es. MayFollow es h) (append_assoc (tables_go s xs) (entries_end s ks) (CatalogueChange (EntryEnded k s) ∷ []))
    (follow_first (tables_go s xs ++ entries_end s ks) (CatalogueChange (EntryEnded k s)) h first more)
