-- A table is the child of one entry at most that is present for a session.
use Rattle.std.proofs.Common.{◌≡◌, ◌∙◌, ℕ, true, List, ap, sym, refl, subst, get_or}
use Rattle.std.specs.List.{All, Contains}
use Rattle.std.proofs.lemmas.List.Elements.{All-contains, Contains-append_left}
use Rattle.history.specs.declared.catalogue.Entry.{Entry}
use Rattle.history.specs.Catalogue.{entries_added}
use Rattle.history.specs.History.{History, tx_events, catalogue_events}
use Rattle.history.specs.Presence.{counts, is_present, entries_present}
use Rattle.history.specs.Legal.{IsLegal}
use Rattle.soundness.specs.Legal.{ArePermitted}
use Rattle.soundness.specs.Worlds.{Present}
use Rattle.soundness.proofs.All.{legal_keeps_all}
use Rattle.soundness.proofs.Listed.{kept_in}
use Rattle.soundness.proofs.Looking.{counts_world}
use Rattle.soundness.proofs.Presence.{all_present}
use Rattle.soundness.proofs.Sound.{sound_of, catalogue_sound_of}
use Rattle.legal_statements.specs.TakenBack.{IsBackAgain}
use Rattle.legal_statements.proofs.Behind.{entries_both}

-- the old one is there
old_present : (g h : History) (session : ℕ) (back : IsBackAgain g h) → Contains (entries_present h session) back.old
old_present g h session back =
    let among = Contains-append_left (entries_added back.until) (entries_added back.later) back.old back.there in
    let here : Contains (entries_added (catalogue_events h)) back.old = subst (λ (es : List Entry). Contains es back.old) (sym (ap entries_added back.without ∙ entries_both back.later back.until)) among in
    let born : counts (tx_events h) session back.old.by.number ≡ true = rw back.committed refl in
    let stands = back.standing in
    kept_in (is_present h session) (entries_added (catalogue_events h)) back.old here (rw (born, stands) refl)

pub one_over : (g h : History) (session : ℕ) → IsLegal h → ArePermitted h → (back : IsBackAgain g h) → All (λ (x : Entry). x.child.number ≡ back.old.child.number → x.id.number ≡ back.old.id.number) (entries_present h session)
one_over g h session legal permitted back =
    let present = all_present h session (sound_of h legal) (catalogue_sound_of h legal) in
    let i = legal_keeps_all h legal permitted in
    let siblings = i.siblings (counts (tx_events h) session) (counts_world (tx_events h) session (sound_of h legal)) in
    let own = All-contains (Present (catalogue_events h) (counts (tx_events h) session)) (entries_present h session) back.old present (old_present g h session back) in
    λ k d lt same. ap (λ (e : Entry). e.id.number) (siblings.one_parent (get_or (entries_present h session) k d) back.old (present k d lt) own same)
