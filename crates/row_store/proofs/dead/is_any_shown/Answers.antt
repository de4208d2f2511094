use Rattle.std.proofs.Common.{◌≡◌, None, slice_index_or, sym, ap, ◌∙◌, refl, inl, inr, arith}
use Rattle.std.proofs.lemmas.Bool.{cases_lt}
use Rattle.row_store.specs.declared.stored.Stored.{Stored}
use Rattle.row_store.specs.Judged.{shows_if_held}
use Rattle.row_store.proofs.DeadVersions.{any_of, nowhere, none_past}
use Rattle.row_store.proofs.dead.is_any_shown.Goals as goal

pub returns-then-is_held_shown : goal.returns-then-is_held_shown
returns-then-is_held_shown c =
    let x : Stored = record { version = c.args.stored.now.version; ended = c.args.ended } in
    sym (any_of (λ held. shows_if_held c.args.txs.now held x) c.args.txs.now.held c.loop-r.r refl (sym c.is_held_shown.ensures ∙ c.if-is_held_shown.true))

pub returns : goal.returns
returns c =
    let x : Stored = record { version = c.args.stored.now.version; ended = c.args.ended } in
    sym (nowhere (λ held. shows_if_held c.args.txs.now held x) c.args.txs.now.held
    (none_past (λ held. shows_if_held c.args.txs.now held x) c.args.txs.now.held c.loop-r.r c.sessions-r-end.result refl (omega (arith, c.loop-r-test.false)) c.loop-r.invariant c.sessions-r-end.ensures.held))

pub loop-r-preserved : goal.loop-r-preserved
loop-r-preserved c k lt = elim (cases_lt k c.loop-r.r) [
  | inl before ↦ c.loop-r.invariant k before
  | inr after ↦
      let last : k ≡ c.loop-r.r = omega (arith, lt, after) in
      let x : Stored = record { version = c.args.stored.now.version; ended = c.args.ended } in
      ap (λ i. shows_if_held c.args.txs.now (slice_index_or c.args.txs.now.held i None) x) last ∙ sym c.is_held_shown.ensures ∙ c.if-is_held_shown.false
]
