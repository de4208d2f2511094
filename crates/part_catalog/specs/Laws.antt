-- What holds of the entries that a session is shown, as they become more.
use Rattle.std.specs.Prelude.{ℕ, ◌∷◌, All}
use Rattle.history.specs.declared.catalogue.Entry.{Entry}
use Rattle.history.specs.Catalogue.{EntryAdded}
use Rattle.history.specs.History.{History, CatalogueChange}
use Rattle.history.specs.Presence.{entries_present}
use Rattle.row_router.specs.Siblings.{AreSiblings, CanStandTogether}

-- an entry that can stand beside each that is present leaves siblings
abbrev pub SiblingsAreKept : Type 0
SiblingsAreKept = (h : History) (session : ℕ) (e : Entry) → AreSiblings (entries_present h session) → All (λ x. CanStandTogether x e) (entries_present h session) → AreSiblings (entries_present (CatalogueChange (EntryAdded e) ∷ h) session)
