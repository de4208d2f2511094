-- A scan can be left out: a partition with a row leaves its place, a CHECK stays, and the table comes back at a wider bound.
use Rattle.std.proofs.Common.{◌≡◌, ℕ, ◌+◌, ◌<◌, zero, suc, arith, List, [], ◌∷◌, inl, inr, refl, ap, sym, subst, length}
use Rattle.std.proofs.lemmas.List.Elements.{All-cons, All-nil}
use Rattle.pg_values.specs.declared.strategy.Strategy.TheVariants.{Range as ByRange}
use Rattle.history.specs.declared.catalogue.Check.{Check}
use Rattle.history.specs.declared.catalogue.Entry.{Entry}
use Rattle.history.specs.declared.catalogue.Stamp.{Stamp}
use Rattle.history.specs.Catalogue.{EntryEnded, CheckKept}
use Rattle.history.specs.Places.{LiesIn}
use Rattle.history.specs.History.{History, CatalogueChange, tx_events, catalogue_events}
use Rattle.history.specs.Legal.{IsLegal}
use Rattle.soundness.specs.Worlds.{view}
use Rattle.soundness.specs.Parts.{AreChildren}
use Rattle.soundness.specs.Legal.{Has, Below, OwnsNow, GuardsNow, HasPlace, MayKeep, MayEndEntry, MaySkip, ArePermitted}
use Rattle.soundness.specs.Laws.{SkipCanBeMet}
use Rattle.soundness.proofs.Worlds.{both_ways, same_refl, view_own}
use Rattle.soundness.proofs.Example.{attached, with_partition, key_column, number_column, range_from, legal_partition, may_add, may_bear, may_make_child, may_make_parent, point_at}

-- the CHECK of p, and p FOR VALUES FROM (0) TO (20)
abbrev check : Check
check = record { table = record { number = 1 }; kept = record { level = record { strategy = ByRange; columns = key_column ∷ []; one_if_list = λ list. refl }; bound = range_from 0 10 }; by = record { number = 0 }; cmd = 4 }

abbrev stamp : Stamp
stamp = record { by = record { number = 0 }; cmd = 4 }

abbrev again : Entry
again = record { id = record { number = 1 }; parent = record { number = 0 }; child = record { number = 1 }; bound = range_from 0 20; by = record { number = 0 }; cmd = 5 }

abbrev kept : History
kept = CatalogueChange (CheckKept check) ∷ with_partition

abbrev ended : History
ended = CatalogueChange (EntryEnded 0 stamp) ∷ kept

legal_kept : IsLegal kept
legal_kept = (
  (omega arith, (point_at 0, point_at 10, refl), All-cons (LiesIn (number_column ∷ [])) key_column [] refl (All-nil (LiesIn (number_column ∷ [])))),
  (λ e. omega arith, (λ e. omega arith, (λ e. omega arith, (λ e. omega arith, (tt, (tt, tt)))))),
  legal_partition,
)

legal_ended : IsLegal ended
legal_ended = ((omega arith, refl), (λ e. omega arith, (λ e. omega arith, (λ e. omega arith, (λ e. omega arith, (λ e. omega arith, (tt, (tt, tt))))))), legal_kept)

may_keep : MayKeep with_partition check
may_keep = record {
  acts = record { begun = omega arith; runs = refl };
  from_entry = (
    attached,
    record {
      has = (inl refl, view_own (tx_events with_partition) 0 refl, λ u d. absurd d);
      repeats = record { child = refl; level = refl; bound = refl; named = refl };
      guarded = (0, same_refl (tx_events with_partition) 0, view_own (tx_events with_partition) 0 refl, inr (inr (omega arith, refl)));
    },
  );
  locked = (0, same_refl (tx_events with_partition) 0, view_own (tx_events with_partition) 0 refl, inr (omega arith, refl));
  another = λ d has. absurd has.0;
}

may_end : MayEndEntry kept 0 stamp
may_end = record {
  acts = record { begun = omega arith; runs = refl };
  locked = λ e is at. elim is [
    | inl new ↦ subst (λ (z : Entry). GuardsNow kept 0 z.parent.number) new (0, same_refl (tx_events kept) 0, view_own (tx_events kept) 0 refl, inr (inr (omega arith, refl)))
    | inr none ↦ absurd none
  ];
}

none_has : (g : Entry) → Has ended 0 g → ⊥
none_has g p = elim p.0 [
  | inl new ↦ both_ways (view (tx_events ended) 0 0) (view_own (tx_events ended) 0 refl) (p.2 0 (inl (ap (λ (z : Entry). z.id.number) new, refl)))
  | inr none ↦ absurd none
]

nothing_below : (n top x : ℕ) → Below ended 0 (suc n) top x → ⊥
nothing_below n top x (g, p, child, rest) = none_has g p

owned : (n x : ℕ) → Below ended 0 n 1 x → OwnsNow ended 0 x
owned zero x is = subst (λ z. OwnsNow ended 0 z) is (0, same_refl (tx_events ended) 0, view_own (tx_events ended) 0 refl, inr (omega arith, refl))
owned (suc n) x is = absurd (nothing_below n 1 x is)

not_below : (n : ℕ) → Below ended 0 n 1 0 → ⊥
not_below zero is = omega (arith, is)
not_below (suc n) is = nothing_below n 1 0 is

shallow : (n m top x : ℕ) → Below ended 0 n top 0 → Below ended 0 m 1 x → n + m + 1 ≡ 8 → ⊥
shallow zero zero top x up low long = absurd (omega (arith, long))
shallow zero (suc m) top x up low long = nothing_below m 1 x low
shallow (suc n) m top x up low long = nothing_below n top 0 up

room : (es : List Entry) → AreChildren (catalogue_events ended) (view (tx_events ended) 0) 0 es → length es < 1024
room [] are = omega arith
room (e ∷ es) are = absurd (none_has e (are.below 0 e (omega arith)).0)

has_place : HasPlace ended again
has_place = record {
  acts = record { begun = omega arith; runs = refl };
  there = ((omega arith, view_own (tx_events ended) 0 refl, λ u d. absurd d), (omega arith, view_own (tx_events ended) 0 refl, λ u d. absurd d));
  parent_locked = (0, same_refl (tx_events ended) 0, view_own (tx_events ended) 0 refl, inr (inr (omega arith, refl)));
  default_locked = λ d n x p. absurd (none_has d p);
  roomy = room;
  together = λ g p. absurd (none_has g p);
  no_pending = λ g p. absurd (none_has g p);
  default_scanned = λ d v n x p. absurd (none_has d p);
}

may_skip : MaySkip ended again
may_skip = record {
  place = has_place;
  child_locked = owned;
  no_partition = λ g p. absurd (none_has g p);
  not_above = not_below;
  shallow = shallow;
  parent_alone = λ g p. absurd (none_has g p);
  parent_unchecked = λ d has at. elim has.0 [
    | inl new ↦ let its : d.table.number ≡ 1 = ap (λ (z : Check). z.table.number) (sym new) in omega (arith, its, at)
    | inr none ↦ none
  ];
  implied = (check, record { kept = (inl refl, view_own (tx_events ended) 0 refl); child = refl; level = check.kept.level; shape = refl; columns = refl; inside = refl });
  looking = λ r s held. absurd (cc);
}

are_permitted : ArePermitted ended
are_permitted = (may_end, (may_keep, (inl may_add, (may_bear, (may_make_child, (may_make_parent, (tt, (tt, tt))))))))

pub skip_can_be_met : SkipCanBeMet
skip_can_be_met = (ended, again, legal_ended, are_permitted, may_skip, refl)
