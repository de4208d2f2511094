-- Ways through the entries of a world.
use Rattle.std.proofs.Common.{◌≡◌, ℕ, zero, suc, true, false, ◌⊎◌, inl, inr, refl, sym, subst, List}
use Rattle.history.specs.declared.catalogue.Entry.{Entry}
use Rattle.bound_forms.specs.declared.partition_bound.Bound.{Bound}
use Rattle.history.specs.Catalogue.{CatalogueEvents}
use Rattle.bound_forms.specs.Accepts.{accepts, is_default}
use Rattle.pg_values.specs.declared.value.Value.{Value}
use Rattle.soundness.specs.Worlds.{World, Present, Under, AcceptsKey}

pub under_map : (c d : CatalogueEvents) (w k : World) → ((e : Entry) → Present c w e → Present d k e) → (n top x : ℕ) → Under c w n top x → Under d k n top x
under_map c d w k to zero top x is = is
under_map c d w k to (suc n) top x (e, p, child, rest) = (e, to e p, child, under_map c d w k to n top e.parent.number rest)

-- one step more at the top
pub under_top : (c : CatalogueEvents) (w : World) (e : Entry) → Present c w e → (n x : ℕ) → Under c w n e.child.number x → Under c w (suc n) e.parent.number x
under_top c w e p zero x is = (e, p, is, refl)
under_top c w e p (suc n) x (g, q, child, rest) = (g, q, child, under_top c w e p n g.parent.number rest)

-- a way that ends at the bottom leads through entries above the bottom
pub under_above : (c d : CatalogueEvents) (w k : World) (bottom : ℕ) → ((g : Entry) (m : ℕ) → Present c w g → Under c w m g.child.number bottom → Present d k g)
    → (n m top x : ℕ) → Under c w m x bottom → Under c w n top x → Under d k n top x
under_above c d w k bottom to zero m top x low is = is
under_above c d w k bottom to (suc n) m top x low (e, p, child, rest) =
    let here : Under c w m e.child.number bottom = subst (λ y. Under c w m y bottom) (sym child) low in
    (e, to e m p here, child, under_above c d w k bottom to n (suc m) top e.parent.number (under_top c w e p m bottom here) rest)

-- a way that begins at the top leads through tables below the top
pub under_below : (c d : CatalogueEvents) (w k : World) (top : ℕ) → ((g : Entry) (m : ℕ) → Present c w g → Under d k m top g.parent.number → Present d k g)
    → (n x : ℕ) → Under c w n top x → Under d k n top x
under_below c d w k top to zero x is = is
under_below c d w k top to (suc n) x (e, p, child, rest) =
    let up = under_below c d w k top to n e.parent.number rest in
    (e, to e n p up, child, up)

-- one way after another
pub under_join : (c : CatalogueEvents) (w : World) (top middle : ℕ) (n m x : ℕ) → Under c w n top middle → Under c w m middle x → (k : ℕ) × Under c w k top x
under_join c w top middle n zero x up is = (n, subst (λ y. Under c w n top y) is up)
under_join c w top middle n (suc m) x up (e, p, child, rest) =
    let r = under_join c w top middle n m e.parent.number up rest in
    (suc r.0, (e, p, child, r.1))

-- an entry accepts in one world what it accepts in another that has its siblings
pub accepts_map : (c d : CatalogueEvents) (w k : World) (parent : ℕ) (b : Bound) (key : List Value)
    → (is_default b ≡ true → (f : Entry) → Present c w f → f.parent.number ≡ parent → Present d k f ⊎ (accepts key f.bound ≡ false))
    → AcceptsKey d k parent b key → AcceptsKey c w parent b key
accepts_map c d w k parent b key to (inl is) = inl is
accepts_map c d w k parent b key to (inr (by_default, none)) = inr (by_default, λ f p same. elim (to by_default f p same) [ inl there ↦ none f there same | inr out ↦ out ])
