use Rattle.std.proofs.Common.{◌≡◌, ◌∙◌, ℕ, List, [], ◌∷◌, ◌++◌}
use Rattle.script_program.specs.Draws.{Moves, in_turn}
use Rattle.script_program.specs.LoadScript.{load, permutation_line, sessions, setups}
use Rattle.script_program.proofs.DrawLaws.{first, last}
use Rattle.script_program.proofs.load_lines.load_of.Goals as goal

whole : (seed : ℕ) {s s' : ℕ} {t t' : List ℕ} → s ≡ seed → t ≡ [] → Moves (in_turn (setups ∷ sessions ∷ permutation_line ∷ [])) s t s' t' → t' ≡ load seed
whole seed state none h = h.appends ∙ (λ i. none i ++ (in_turn (setups ∷ sessions ∷ permutation_line ∷ []) (state i)).0)

pub returns : goal.returns
returns c =
    whole c.args.seed c.new-load.ensures.state c.new-load.ensures.text (first _ c.in_ok-write_setups.ensures (first _ c.in_ok-write_sessions.ensures (last c.in_ok-write_permutation.ensures)))
