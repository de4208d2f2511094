-- A table that is made, and one that is dropped.
use Rattle.std.proofs.Common.{◌≡◌, ◌≢◌, ℕ, zero, suc, true, false, ◌∷◌, ◌⊎◌, inl, inr, refl, ap, sym, subst, ◌∙◌, Some, length}
use Rattle.std.proofs.lemmas.Bool.{cases_Bool}
use Rattle.history.specs.declared.transaction.Fate.TheVariants.{Running}
use Rattle.history.specs.declared.catalogue.Table.{Table}
use Rattle.history.specs.declared.catalogue.Entry.{Entry}
use Rattle.history.specs.declared.catalogue.Stamp.{Stamp}
use Rattle.history.specs.Transactions.{TxEvents, open_of, fate}
use Rattle.history.specs.Catalogue.{CatalogueEvents, TableMade, TableDropped, tables_made}
use Rattle.history.specs.Locks.{LockEvents}
use Rattle.history.specs.History.{History, tx_events, snapshot_events, row_events, catalogue_events, lock_events}
use Rattle.pg_values.specs.declared.ids.LeafId.{LeafId}
use Rattle.soundness.specs.Worlds.{World, same_tx, IsWorld, table_in, IsMade, HasLeaf, Present, IsThere, Under, AcceptsKey, key_at}
use Rattle.soundness.specs.Parts.{IsMaker, IsKnown, OwnsBy, WritesBy, GuardsBy, Owns, Writes, Guards, OwnsIn, WritesIn, GuardsIn, Invariant, InvariantOf}
use Rattle.soundness.specs.Legal.{MayMake, MayDrop}
use Rattle.soundness.proofs.Worlds.{both_ways, same_refl, split, outside, present_own}
use Rattle.soundness.proofs.Held.{clash, guarding, own_here}
use Rattle.soundness.proofs.Under.{under_map, accepts_map}
use Rattle.soundness.proofs.Counted.{fewer}
use Rattle.soundness.proofs.Made.{same_table, made_more, made_was, leaf_was, same_key, suits_more}

-- ---- what was held and known still is

maker_grows : (t : Table) (cats : CatalogueEvents) (u x : ℕ) → IsMaker cats u x → IsMaker (TableMade t ∷ cats) u x
maker_grows t cats u x (made, by) = (made_more t cats x made, ap (λ (y : Table). y.by.number) (sym (same_table t cats x made)) ∙ by)

owns_grow : (txs : TxEvents) (t : Table) (cats : CatalogueEvents) (locks : LockEvents) (u x : ℕ) → OwnsBy txs cats locks u x → OwnsBy txs (TableMade t ∷ cats) locks u x
owns_grow txs t cats locks u x (inl l) = inl l
owns_grow txs t cats locks u x (inr made) = inr (maker_grows t cats u x made)

writes_grow : (txs : TxEvents) (t : Table) (cats : CatalogueEvents) (locks : LockEvents) (u x : ℕ) → WritesBy txs cats locks u x → WritesBy txs (TableMade t ∷ cats) locks u x
writes_grow txs t cats locks u x (inl l) = inl l
writes_grow txs t cats locks u x (inr o) = inr (owns_grow txs t cats locks u x o)

guards_grow : (txs : TxEvents) (t : Table) (cats : CatalogueEvents) (locks : LockEvents) (u x : ℕ) → GuardsBy txs cats locks u x → GuardsBy txs (TableMade t ∷ cats) locks u x
guards_grow txs t cats locks u x (inl l) = inl l
guards_grow txs t cats locks u x (inr o) = inr (owns_grow txs t cats locks u x o)

pub owns_still : (h : History) (t : Table) (w : World) (u y : ℕ) → OwnsIn h w u y → Owns (tx_events h) (TableMade t ∷ catalogue_events h) (lock_events h) w u y
owns_still h t w u y (q, s, c, o) = (q, s, c, owns_grow (tx_events h) t (catalogue_events h) (lock_events h) q y o)

writes_still : (h : History) (t : Table) (w : World) (u y : ℕ) → WritesIn h w u y → Writes (tx_events h) (TableMade t ∷ catalogue_events h) (lock_events h) w u y
writes_still h t w u y (q, s, c, o) = (q, s, c, writes_grow (tx_events h) t (catalogue_events h) (lock_events h) q y o)

pub guards_still : (h : History) (t : Table) (w : World) (u y : ℕ) → GuardsIn h w u y → Guards (tx_events h) (TableMade t ∷ catalogue_events h) (lock_events h) w u y
guards_still h t w u y (q, s, c, o) = (q, s, c, guards_grow (tx_events h) t (catalogue_events h) (lock_events h) q y o)

known_still : (h : History) (t : Table) (s x : ℕ) → IsKnown (tx_events h) (catalogue_events h) s x → IsKnown (tx_events h) (TableMade t ∷ catalogue_events h) s x
known_still h t s x (made, own) = (
  made_more t (catalogue_events h) x made,
  subst (λ (y : Table). fate (tx_events h) y.by.number ≡ Running → open_of (tx_events h) s ≡ Some y.by.number) (same_table t (catalogue_events h) x made) own,
)

-- ---- a table that is there

there_grows : (t : Table) (cats : CatalogueEvents) (w : World) (x : ℕ) → IsThere cats w x → IsThere (TableMade t ∷ cats) w x
there_grows t cats w x (made, by, free) = (made_more t cats x made, subst (λ (y : Table). w y.by.number ≡ true) (same_table t cats x made) by, free)

-- the new one, or one that was there
there_was : (t : Table) (cats : CatalogueEvents) (w : World) (x : ℕ) → IsThere (TableMade t ∷ cats) w x → ((x ≡ length (tables_made cats)) × (t ≡ table_in (TableMade t ∷ cats) x)) ⊎ IsThere cats w x
there_was t cats w x (made, by, free) = elim (made_was t cats x made) [
  | inl new ↦ inl new
  | inr old ↦ inr (old, subst (λ (y : Table). w y.by.number ≡ true) (sym (same_table t cats x old)) by, free)
]

-- in no world of the transaction an older table has the new name
name_free : (h : History) (t : Table) (w : World) (x : ℕ) → MayMake h t → IsWorld (tx_events h) w → w t.by.number ≡ true → IsThere (catalogue_events h) w x → (table_in (catalogue_events h) x).name ≡ t.name → ⊥
name_free h t w x may world own (made, by, free) same = elim (split (tx_events h) w t.by.number (table_in (catalogue_events h) x).by.number world by) [
  | inl mine ↦ may.free x (made, mine, λ u drop. outside (tx_events h) w t.by.number u world may.acts own (free u drop)) same
  | inr other ↦
      let its = may.unclaimed x made same other.0 in
      both_ways (same_tx (tx_events h) t.by.number t.by.number) (same_refl (tx_events h) t.by.number) (subst (λ z. same_tx (tx_events h) t.by.number z ≡ false) its other.1)
]

name_old : (t : Table) (cats : CatalogueEvents) (w : World) (x : ℕ) → IsThere cats w x → (table_in (TableMade t ∷ cats) x).name ≡ (table_in cats x).name
name_old t cats w x there = ap (λ (y : Table). y.name) (sym (same_table t cats x there.0))

name_new : (t : Table) (cats : CatalogueEvents) (x : ℕ) → t ≡ table_in (TableMade t ∷ cats) x → (table_in (TableMade t ∷ cats) x).name ≡ t.name
name_new t cats x is = ap (λ (y : Table). y.name) (sym is)

born_here : (t : Table) (cats : CatalogueEvents) (w : World) (x : ℕ) → IsThere (TableMade t ∷ cats) w x → t ≡ table_in (TableMade t ∷ cats) x → w t.by.number ≡ true
born_here t cats w x there is = ap (λ (y : Table). w y.by.number) is ∙ there.1

named_still : (h : History) (t : Table) (w : World) → MayMake h t → IsWorld (tx_events h) w → ((x y : ℕ) → IsThere (catalogue_events h) w x → IsThere (catalogue_events h) w y → (table_in (catalogue_events h) x).name ≡ (table_in (catalogue_events h) y).name → x ≡ y)
    → (x y : ℕ) → IsThere (TableMade t ∷ catalogue_events h) w x → IsThere (TableMade t ∷ catalogue_events h) w y → (table_in (TableMade t ∷ catalogue_events h) x).name ≡ (table_in (TableMade t ∷ catalogue_events h) y).name → x ≡ y
named_still h t w may world named x y tx ty same =
    let cats = catalogue_events h in
    elim (there_was t cats w x tx) [
      | inl new ↦ elim (there_was t cats w y ty) [
        | inl also ↦ new.0 ∙ sym also.0
        | inr old ↦ absurd (name_free h t w y may world (born_here t cats w x tx new.1) old (sym (name_old t cats w y old) ∙ (sym same ∙ name_new t cats x new.1)))
      ]
      | inr before ↦ elim (there_was t cats w y ty) [
        | inl new ↦ absurd (name_free h t w x may world (born_here t cats w y ty new.1) before (sym (name_old t cats w x before) ∙ (same ∙ name_new t cats y new.1)))
        | inr old ↦ named x y before old (sym (name_old t cats w x before) ∙ (same ∙ name_old t cats w y old))
      ]
    ]

-- the new table alone has its leaf
leaf_new : (h : History) (t : Table) (x y : ℕ) (leaf : LeafId) → MayMake h t → t ≡ table_in (TableMade t ∷ catalogue_events h) x → HasLeaf (TableMade t ∷ catalogue_events h) x leaf → HasLeaf (catalogue_events h) y leaf → ⊥
leaf_new h t x y leaf may is at old = may.only y leaf old (ap (λ (z : Table). z.shape) is ∙ at.1)

leaf_old : (t : Table) (cats : CatalogueEvents) (x : ℕ) (leaf : LeafId) → IsMade cats x → HasLeaf (TableMade t ∷ cats) x leaf → HasLeaf cats x leaf
leaf_old t cats x leaf made at = (made, ap (λ (z : Table). z.shape) (same_table t cats x made) ∙ at.1)

one_home_still : (h : History) (t : Table) → MayMake h t → ((x y : ℕ) (leaf : LeafId) → HasLeaf (catalogue_events h) x leaf → HasLeaf (catalogue_events h) y leaf → x ≡ y)
    → (x y : ℕ) (leaf : LeafId) → HasLeaf (TableMade t ∷ catalogue_events h) x leaf → HasLeaf (TableMade t ∷ catalogue_events h) y leaf → x ≡ y
one_home_still h t may one x y leaf atx aty = elim (made_was t (catalogue_events h) x atx.0) [
  | inl new ↦ elim (made_was t (catalogue_events h) y aty.0) [
    | inl also ↦ new.0 ∙ sym also.0
    | inr old ↦ absurd (leaf_new h t x y leaf may new.1 atx (leaf_old t (catalogue_events h) y leaf old aty))
  ]
  | inr before ↦ elim (made_was t (catalogue_events h) y aty.0) [
    | inl new ↦ absurd (leaf_new h t y x leaf may new.1 aty (leaf_old t (catalogue_events h) x leaf before atx))
    | inr old ↦ one x y leaf (leaf_old t (catalogue_events h) x leaf before atx) (leaf_old t (catalogue_events h) y leaf old aty)
  ]
]

-- ---- a table is made

pub made_keeps : (h : History) (t : Table) → MayMake h t → InvariantOf h → Invariant (tx_events h) (snapshot_events h) (row_events h) (TableMade t ∷ catalogue_events h) (lock_events h)
made_keeps h t may i =
    let owns = owns_still h t in
    let writes = writes_still h t in
    let guards = guards_still h t in
    let under = λ (w : World) (n top x : ℕ) (is : Under (TableMade t ∷ catalogue_events h) w n top x). under_map (TableMade t ∷ catalogue_events h) (catalogue_events h) w w (λ e p. p) n top x is in
    record {
      begun = record { versions = i.begun.versions; snapshots = i.begun.snapshots };
      locks_apart = record {
        apart = i.locks_apart.apart;
        known = λ s x m held. known_still h t s x (i.locks_apart.known s x m held);
        awaited = λ s x m waits. known_still h t s x.number (i.locks_apart.awaited s x m waits);
      };
      open_versions = record {
        born = λ w v x world is at runs own. elim (leaf_was t (catalogue_events h) x v.leaf at) [
          | inl new ↦ absurd (may.empty v is new)
          | inr old ↦ writes w v.by.number x (i.open_versions.born w v x world is old runs own)
        ];
        ended = λ w v y x world is at end runs own. elim (leaf_was t (catalogue_events h) x v.leaf at) [
          | inl new ↦ absurd (may.empty v is new)
          | inr old ↦ writes w y.by.number x (i.open_versions.ended w v y x world is old end runs own)
        ];
        in_order = i.open_versions.in_order;
      };
      open_entries = record {
        added = λ w e world is runs own. guards w e.by.number e.parent.number (i.open_entries.added w e world is runs own);
        below = λ w e n y world is runs own low. owns w e.by.number y (i.open_entries.below w e n y world is runs own (under w n e.child.number y low));
        beside = λ w e d n y world is runs own p same by_default low. owns w e.by.number y (i.open_entries.beside w e d n y world is runs own p same by_default (under w n d.child.number y low));
        ended = λ w e u world is end runs own. guards w u e.parent.number (i.open_entries.ended w e u world is end runs own);
        marked = λ w e u world is mark runs own. guards w u e.parent.number (i.open_entries.marked w e u world is mark runs own);
        dropped = λ w y u world is runs own. owns w u y (i.open_entries.dropped w y u world is runs own);
      };
      tables = record { one_home = one_home_still h t may i.tables.one_home };
      entries = record { numbered = i.entries.numbered; suited = λ e is. suits_more t (catalogue_events h) e (i.entries.suited e is) };
      siblings = λ w world. let s = i.siblings w world in record {
        one_parent = s.one_parent;
        together = s.together;
        no_cycle = λ n x is. s.no_cycle n x (under w (suc n) x x is);
        shallow = λ top x is. s.shallow top x (under w 8 top x is);
        few = λ x es are. s.few x es (fewer (TableMade t ∷ catalogue_events h) (catalogue_events h) w x es (λ e p. p) are);
        there = λ e p. let r = s.there e p in (there_grows t (catalogue_events h) w e.parent.number r.0, there_grows t (catalogue_events h) w e.child.number r.1);
        one_pending = s.one_pending;
        no_default = s.no_default;
        named = named_still h t w may world s.named;
      };
      fit = λ w v world is shows x at e n p low. elim (leaf_was t (catalogue_events h) x v.leaf at) [
        | inl new ↦ absurd (may.empty v is new)
        | inr old ↦
            let key = key_at (catalogue_events h) e.parent.number v.row in
            let accepts = accepts_map (TableMade t ∷ catalogue_events h) (catalogue_events h) w w e.parent.number e.bound key (λ d f q same. inl q) (i.fit w v world is shows x old e n p (under w n e.child.number x low)) in
            subst (λ k. AcceptsKey (TableMade t ∷ catalogue_events h) w e.parent.number e.bound k) (same_key t (catalogue_events h) e.parent.number v.row ((i.entries.suited e p.0).parent)) accepts
      ];
    }

-- ---- a table is dropped

still_there : (cats : CatalogueEvents) (w : World) (x : ℕ) (s : Stamp) (y : ℕ) → (w s.by.number ≡ true → y ≢ x) → IsThere cats w y → IsThere (TableDropped x s ∷ cats) w y
still_there cats w x s y other (made, by, free) = (
  made,
  by,
  λ u drop. elim drop [
    | inl new ↦ elim (cases_Bool (w s.by.number)) [
      | inl own ↦ absurd (other own (sym new.0))
      | inr out ↦ ap w (sym new.1) ∙ out
    ]
    | inr old ↦ free u old
  ],
)

was_there : (cats : CatalogueEvents) (w : World) (x : ℕ) (s : Stamp) (y : ℕ) → IsThere (TableDropped x s ∷ cats) w y → IsThere cats w y
was_there cats w x s y (made, by, free) = (made, by, λ u drop. free u (inr drop))

parent_free : (h : History) (x : ℕ) (s : Stamp) (w : World) (e : Entry) → MayDrop h x s → InvariantOf h → IsWorld (tx_events h) w → Present (catalogue_events h) w e → w s.by.number ≡ true → e.parent.number ≢ x
parent_free h x s w e may i world p own same = elim (split (tx_events h) w s.by.number e.by.number world p.1) [
  | inl mine ↦ (may.free e (present_own (tx_events h) (catalogue_events h) w s.by.number e world may.acts own p mine)).0 same
  | inr other ↦ clash h w s.by.number e.by.number x i world may.acts.runs other.0 other.1 (guarding h w s.by.number x (own_here h w s.by.number x world may.acts own may.locked)) (subst (λ z. GuardsIn h w e.by.number z) same (i.open_entries.added w e world p.0 other.0 p.1))
]

child_free : (h : History) (x : ℕ) (s : Stamp) (w : World) (e : Entry) → MayDrop h x s → InvariantOf h → IsWorld (tx_events h) w → Present (catalogue_events h) w e → w s.by.number ≡ true → e.child.number ≢ x
child_free h x s w e may i world p own same = elim (split (tx_events h) w s.by.number e.by.number world p.1) [
  | inl mine ↦ (may.free e (present_own (tx_events h) (catalogue_events h) w s.by.number e world may.acts own p mine)).1 same
  | inr other ↦ clash h w s.by.number e.by.number x i world may.acts.runs other.0 other.1 (guarding h w s.by.number x (own_here h w s.by.number x world may.acts own may.locked))
      (guarding h w e.by.number x (subst (λ z. OwnsIn h w e.by.number z) same (i.open_entries.below w e zero e.child.number world p.0 other.0 p.1 refl)))
]

pub dropped_keeps : (h : History) (x : ℕ) (s : Stamp) → MayDrop h x s → InvariantOf h → Invariant (tx_events h) (snapshot_events h) (row_events h) (TableDropped x s ∷ catalogue_events h) (lock_events h)
dropped_keeps h x s may i =
    let under = λ (w : World) (n top y : ℕ) (is : Under (TableDropped x s ∷ catalogue_events h) w n top y). under_map (TableDropped x s ∷ catalogue_events h) (catalogue_events h) w w (λ e p. p) n top y is in
    record {
      begun = record { versions = i.begun.versions; snapshots = i.begun.snapshots };
      locks_apart = record { apart = i.locks_apart.apart; known = i.locks_apart.known; awaited = i.locks_apart.awaited };
      open_versions = record { born = i.open_versions.born; ended = i.open_versions.ended; in_order = i.open_versions.in_order };
      open_entries = record {
        added = i.open_entries.added;
        below = λ w e n y world is runs own low. i.open_entries.below w e n y world is runs own (under w n e.child.number y low);
        beside = λ w e d n y world is runs own p same by_default low. i.open_entries.beside w e d n y world is runs own p same by_default (under w n d.child.number y low);
        ended = i.open_entries.ended;
        marked = i.open_entries.marked;
        dropped = λ w y u world is runs own. elim is [
          | inl new ↦ subst (λ z. OwnsIn h w u z) new.0 (subst (λ z. OwnsIn h w z x) new.1 (own_here h w s.by.number x world may.acts (subst (λ z. w z ≡ true) (sym new.1) own) may.locked))
          | inr old ↦ i.open_entries.dropped w y u world old runs own
        ];
      };
      tables = record { one_home = i.tables.one_home };
      entries = record { numbered = i.entries.numbered; suited = i.entries.suited };
      siblings = λ w world. let b = i.siblings w world in record {
        one_parent = b.one_parent;
        together = b.together;
        no_cycle = λ n y is. b.no_cycle n y (under w (suc n) y y is);
        shallow = λ top y is. b.shallow top y (under w 8 top y is);
        few = λ y es are. b.few y es (fewer (TableDropped x s ∷ catalogue_events h) (catalogue_events h) w y es (λ e p. p) are);
        there = λ e p. let r = b.there e p in (
          still_there (catalogue_events h) w x s e.parent.number (parent_free h x s w e may i world p) r.0,
          still_there (catalogue_events h) w x s e.child.number (child_free h x s w e may i world p) r.1,
        );
        one_pending = b.one_pending;
        no_default = b.no_default;
        named = λ y z ty tz. b.named y z (was_there (catalogue_events h) w x s y ty) (was_there (catalogue_events h) w x s z tz);
      };
      fit = λ w v world is shows y at e n p low. accepts_map (TableDropped x s ∷ catalogue_events h) (catalogue_events h) w w e.parent.number e.bound (key_at (catalogue_events h) e.parent.number v.row) (λ d f q same. inl q) (i.fit w v world is shows y at e n p (under w n e.child.number y low));
    }
