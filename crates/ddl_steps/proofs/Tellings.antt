-- What is told of one scan.
use Rattle.std.proofs.Common.{◌≡◌, ℕ, ◌||◌, not, Bool, true, false, List, [], ◌∷◌, ◌++◌, refl, sym, ap, ◌∙◌, subst, arith, Option, Ok, Err}
use Rattle.std.specs.Prelude.{is_some}
use Rattle.std.proofs.lemmas.Grind.{common_steps}
use Rattle.std.proofs.lemmas.Bool.Decides.{nat_tests}
use Rattle.std.proofs.lemmas.Nat.Bits.{bit_at-zero}
use Rattle.pg_values.specs.declared.value.Value.{Value}
use Rattle.pg_values.specs.Sets.{has, empty}
use Rattle.pg_values.specs.declared.ids.LeafId.{LeafId}
use Rattle.pg_values.specs.declared.session_set.SessionSet.{SessionSet}
use Rattle.pg_values.specs.Refusals.{or_first}
use Rattle.bound_forms.specs.Accepts.{accepts, accepts_among}
use Rattle.bound_forms.specs.declared.partition_bound.Bound.{Bound}
use Rattle.bound_forms.specs.declared.level.Level.{Level as OneLevel}
use Rattle.history.specs.declared.catalogue.TableShape.{TableShape}
use Rattle.history.specs.declared.catalogue.TableShape.TheVariants.{Level}
use Rattle.history.specs.declared.version.Version.{Version}
use Rattle.history.specs.History.{History}
use Rattle.row_store.specs.Judged.{seeing}
use Rattle.row_router.specs.declared.path.PathTest.TheVariants.{Bounds, Checks}
use Rattle.row_router.specs.Paths.{refused}
use Rattle.soundness.specs.Worlds.{key_in}
use Rattle.row_router.specs.declared.path_part.PathPart.{PathPart}
use Rattle.row_router.specs.Histories.{ddl_tree, path_of}
use Rattle.row_router.specs.Trees.{key_of, leaves}
use Rattle.part_catalog.specs.Found.{made_at}
use Rattle.part_ddl.specs.Placing.{bounds_below}
use Rattle.ddl_steps.specs.Places.{breaks_default, breaks_place}
use Rattle.ddl_steps.specs.Scans.{Scan, IsPassed, IsRefused, fault_told, watches, judged}
use Rattle.ddl_steps.specs.Sessions.{those}
use Rattle.ddl_steps.proofs.Sets.{are_those}

or_none : (b : Bool) → (b || false) ≡ b
or_none true = refl
or_none false = refl

none_has : (k : ℕ) → has empty k ≡ false
none_has k = grind (arith, common_steps, nat_tests, bit_at-zero k)

-- nobody refuses: those who watch have to go
pub goes_on : (h : History) (s : ℕ) (x : Scan) (set : SessionSet) → IsPassed h s x.leaves x.breaks set → judged h s (x ∷ []) ≡ Ok set
goes_on h s x set its =
    ap (λ (o : Option Version). or_first (fault_told x.fault o ++ []) (those (watches h s (x ∷ [])))) its.none
    ∙ ap Ok (are_those set (watches h s (x ∷ [])) (λ r. its.all r ∙ sym (or_none (seeing h s x.leaves x.breaks r))) its.low)

pub watched : (h : History) (s : ℕ) (x : Scan) (set : SessionSet) → IsPassed h s x.leaves x.breaks set → (r : ℕ) → has set r ≡ watches h s (x ∷ []) r
watched h s x set its r = its.all r ∙ sym (or_none (seeing h s x.leaves x.breaks r))

-- or the row is told that refuses
pub refuses : (h : History) (s : ℕ) (x : Scan) (row : List Value) → IsRefused h s x.leaves x.breaks row → judged h s (x ∷ []) ≡ Err (x.fault row)
refuses h s x row its =
    ap (λ (o : Option Version). or_first (fault_told x.fault o ++ []) (those (watches h s (x ∷ [])))) its.refuses ∙ ap (λ (r : List Value). Err (x.fault r)) (sym its.is_row)

-- where there is nothing to scan, nobody is waited for
pub nothing_judged : (h : History) (s : ℕ) → judged h s [] ≡ Ok empty
nothing_judged h s = ap Ok (are_those empty (watches h s []) (λ r. none_has r) (λ r le. none_has r))

-- ---- the tests of the code are those that are meant

abbrev default_test : TableShape → Bound → List Value → Bool
default_test shape b row = accepts (key_in shape row) b

pub same_default_test : (h : History) (p : ℕ) (level : OneLevel) (b : Bound) → (made_at h p).shape ≡ Level level → (λ (row : List Value). accepts (key_of level row) b) ≡ breaks_default h p b
same_default_test h p level b shape = ap (λ (sh : TableShape). default_test sh b) (sym shape)

abbrev place_test : TableShape → List Bound → List PathPart → Bound → List Value → Bool
place_test shape bounds path b row = not (accepts_among bounds (key_in shape row) b) || (is_some (refused Bounds row path) || is_some (refused Checks row path))

pub same_place_test : (h : History) (s p : ℕ) (level : OneLevel) (bounds : List Bound) (path : List PathPart) (b : Bound) → (made_at h p).shape ≡ Level level → bounds ≡ bounds_below h s p → path ≡ path_of h s p
    → (λ (row : List Value). not (accepts_among bounds (key_of level row) b) || (is_some (refused Bounds row path) || is_some (refused Checks row path))) ≡ breaks_place h s p b
same_place_test h s p level bounds path b shape siblings above =
    let sh = (made_at h p).shape in
    ap (λ (x : TableShape). place_test x bounds path b) (sym shape) ∙ (ap (λ (x : List Bound). place_test sh x path b) siblings ∙ ap (λ (x : List PathPart). place_test sh (bounds_below h s p) x b) above)

-- ---- what a scan of the code comes to

module _ (h : History) (s p : ℕ) (level : OneLevel) (b : Bound) (shape : (made_at h p).shape ≡ Level level) (ls : List LeafId) where
  pub default_passed : (d : ℕ) (set : SessionSet) → ls ≡ leaves (ddl_tree h s d) → IsPassed h s ls (λ (row : List Value). accepts (key_of level row) b) set → IsPassed h s (leaves (ddl_tree h s d)) (breaks_default h p b) set
  default_passed d set are its =
      subst (λ (f : List Value → Bool). IsPassed h s (leaves (ddl_tree h s d)) f set) (same_default_test h p level b shape) (subst (λ (l : List LeafId). IsPassed h s l (λ (row : List Value). accepts (key_of level row) b) set) are its)

  pub default_refused : (d : ℕ) (row : List Value) → ls ≡ leaves (ddl_tree h s d) → IsRefused h s ls (λ (r : List Value). accepts (key_of level r) b) row → IsRefused h s (leaves (ddl_tree h s d)) (breaks_default h p b) row
  default_refused d row are its =
      subst (λ (f : List Value → Bool). IsRefused h s (leaves (ddl_tree h s d)) f row) (same_default_test h p level b shape) (subst (λ (l : List LeafId). IsRefused h s l (λ (r : List Value). accepts (key_of level r) b) row) are its)

  module _ (bounds : List Bound) (path : List PathPart) (siblings : bounds ≡ bounds_below h s p) (above : path ≡ path_of h s p) where
    pub place_passed : (t : ℕ) (set : SessionSet) → ls ≡ leaves (ddl_tree h s t) → IsPassed h s ls (λ (row : List Value). not (accepts_among bounds (key_of level row) b) || (is_some (refused Bounds row path) || is_some (refused Checks row path))) set
        → IsPassed h s (leaves (ddl_tree h s t)) (breaks_place h s p b) set
    place_passed t set are its =
        subst (λ (f : List Value → Bool). IsPassed h s (leaves (ddl_tree h s t)) f set) (same_place_test h s p level bounds path b shape siblings above)
        (subst (λ (l : List LeafId). IsPassed h s l (λ (row : List Value). not (accepts_among bounds (key_of level row) b) || (is_some (refused Bounds row path) || is_some (refused Checks row path))) set) are its)

    pub place_refused : (t : ℕ) (row : List Value) → ls ≡ leaves (ddl_tree h s t) → IsRefused h s ls (λ (r : List Value). not (accepts_among bounds (key_of level r) b) || (is_some (refused Bounds r path) || is_some (refused Checks r path))) row
        → IsRefused h s (leaves (ddl_tree h s t)) (breaks_place h s p b) row
    place_refused t row are its =
        subst (λ (f : List Value → Bool). IsRefused h s (leaves (ddl_tree h s t)) f row) (same_place_test h s p level bounds path b shape siblings above)
        (subst (λ (l : List LeafId). IsRefused h s l (λ (r : List Value). not (accepts_among bounds (key_of level r) b) || (is_some (refused Bounds r path) || is_some (refused Checks r path))) row) are its)
