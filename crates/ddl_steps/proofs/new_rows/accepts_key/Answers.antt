use Rattle.std.proofs.Common.{◌≡◌, ◌∙◌, refl, sym, subst, true, false}
use Rattle.std.specs.Prelude.{is_none}
use Rattle.std.specs.List.{list_any}
use Rattle.bound_forms.specs.declared.partition_bound.Bound.{Bound}
use Rattle.bound_forms.specs.Accepts.{accepts_among, is_default}
use Rattle.ddl_steps.proofs.Asked.{rest_accepted, turned}
use Rattle.ddl_steps.proofs.new_rows.accepts_key.Goals as goal

pub returns-in-Default : goal.returns-in-Default
returns-in-Default g c =
    let key = g.Q.Key.values c.args.key.now in
    let none = subst (λ (b : Bound). is_default b ≡ true → list_any is_default c.args.siblings.now ≡ false) c.in-Default.is c.requires.apart refl in
    let rest = rest_accepted c.args.siblings.now key c.find_child_uncounted.result c.find_child_uncounted.ensures none in
    let asked = c.is_none.ensures in
    let is : c.is_none.result ≡ is_none c.find_child_uncounted.result = turned c.is_none.result c.find_child_uncounted.result (sym asked) in
    subst (λ (b : Bound). c.is_none.result ≡ accepts_among c.args.siblings.now key b) (sym c.in-Default.is) (is ∙ rest)
