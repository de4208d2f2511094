-- A script that is written is read back.
use Rattle.std.proofs.Common.{◌≡◌, ◌≢◌, ◌<◌, ℕ, ◌+◌, Bool, true, List, [], ◌∷◌, ◌++◌, length, drop, map, Option, Some, None, inl, inr, codes, refl, sym, ap, ◌∙◌, subst, lit<, arith, append_assoc, length-append, slice_index, ◌==◌, false}
use Rattle.std.proofs.Math.Seq.{drop-append_seam}
use Rattle.std.proofs.lemmas.List.{append-nil}
use Rattle.spec_reader.specs.Pieces.{piece_of, token}
use Rattle.grammar.specs.Reading.{Class, Rule, one, both, as_value, behind, before}
use Rattle.grammar.specs.Repeats.{many, many_texts, repeats_texts, all_repeats, always}
use Rattle.grammar.specs.Words as words
use Rattle.spec_reader.specs.Scripts.{a, a_name, name, block, block_of, maybe_block, setup, step_of, step, session_of, session, marker, markers, or_none, maybe_markers, use_of, one_use, permutation, script_of, script, marker_of, notices, Says as IsSaid}
use Rattle.spec_reader.specs.Specs.{markers_of, spec_of, uses_of, IsScript}
use Rattle.spec_reader.specs.Specs as specs
use Rattle.spec_reader.specs.Tokens.{tokens_from, tokens_of}
use Rattle.spec_reader.specs.Words.{is}
use Rattle.spec_reader.specs.Written.{quoted, braced, IsOneLine, IsBlock}
use Rattle.spec_reader.specs.WrittenScripts.{all_of, with_name, with_block, with_setup, with_maybe_setup, with_teardown, with_step, with_session, with_marker, with_comma, with_markers, with_use, with_permutation, written_text, marker_as, use_as, uses_as, written_as, script_text, Each, IfThere, IsStep, IsSession, IsMarker, IsUse, IsPermutation, IsWritableScript}
use Rattle.spec_reader.specs.declared.kind.ScriptTokenKind.{ScriptTokenKind}
use Rattle.spec_reader.specs.declared.kind.ScriptTokenKind.TheVariants as kinds
use Rattle.spec_reader.specs.declared.spec.Marker.{Marker}
use Rattle.spec_reader.specs.declared.spec.Marker.TheVariants as marks
use Rattle.spec_reader.specs.declared.spec.SessionSpec.{SessionSpec}
use Rattle.spec_reader.specs.declared.spec.Spec.{Spec}
use Rattle.spec_reader.specs.declared.spec.StepSpec.{StepSpec}
use Rattle.spec_reader.specs.declared.spec.StepUse.{StepUse}
use Rattle.spec_reader.specs.declared.token.Token.{Token}
use Rattle.spec_reader.specs.declared.written.WrittenMarker.{WrittenMarker}
use Rattle.spec_reader.specs.declared.written.WrittenMarker.TheVariants as written
use Rattle.spec_reader.specs.declared.written.WrittenSpec.{WrittenSpec}
use Rattle.spec_reader.specs.declared.written.WrittenUse.{WrittenUse}
use Rattle.spec_reader.proofs.Parts.{Part, Says, moved, token_at, value_says, both_says, blank_says, word_says, block_says, name_says}
use Rattle.spec_reader.proofs.TokenSteps.{tokens_of_utf8, tokens_end}

-- a text behind which a quoted name ends
abbrev Spaced : List ℕ → Type 0
Spaced rest = (slice_index rest 0 == 34) ≡ false

blank : (rest : List ℕ) → Spaced (32 ∷ rest)
blank rest = refl

all_spaced : {A : Type 0} (write : A → List ℕ → List ℕ) → ((x : A) (r : List ℕ) → Spaced (write x r)) → (xs : List A) (rest : List ℕ) → Spaced rest → Spaced (all_of write xs rest)
all_spaced write w [] rest s = s
all_spaced write w (x ∷ xs) rest s = w x (all_of write xs rest)

teardown_spaced : (o : Option (List ℕ)) (rest : List ℕ) → Spaced rest → Spaced (with_teardown o rest)
teardown_spaced None rest s = s
teardown_spaced (Some b) rest s = blank (codes "teardown" ++ with_block b rest)

setup_spaced : (o : Option (List ℕ)) (rest : List ℕ) → Spaced rest → Spaced (with_maybe_setup o rest)
setup_spaced None rest s = s
setup_spaced (Some b) rest s = blank (codes "setup" ++ with_block b rest)

markers_spaced : (ms : List WrittenMarker) (rest : List ℕ) → Spaced rest → Spaced (with_markers ms rest)
markers_spaced [] rest s = s
markers_spaced (m ∷ ms) rest s = blank (40 ∷ with_marker m (all_of with_comma ms (32 ∷ 41 ∷ rest)))

module _ (whole : List ℕ) where
  -- nothing stands there
  nothing_says : {A : Type 0} (P : List Token → A → Type 0) (rest : List ℕ) (x : A) → P [] x → Says whole P rest x rest
  nothing_says P rest x h at e = record { next = at; tokens = []; cut = refl; stands = e; says = h }

  one_name : (n rest : List ℕ) → IsOneLine n → Spaced rest → Says whole (name whole).texts (with_name n rest) n rest
  one_name n rest w s = blank_says whole (name whole).texts (quoted n ++ rest) n rest (name_says whole n rest w s)

  one_block : (b rest : List ℕ) → IsBlock b → Says whole (block whole).texts (with_block b rest) b rest
  one_block b rest w = blank_says whole (block whole).texts (braced b ++ rest) b rest (block_says whole b rest w)

  setup_says : (b rest : List ℕ) → IsBlock b → Says whole (setup whole).texts (with_setup b rest) b rest
  setup_says b rest w =
      blank_says whole (setup whole).texts (codes "setup" ++ with_block b rest) b rest
      (word_says whole kinds.Setup (codes "setup") 5 (block whole) (braced b ++ rest) b rest refl refl (lit< tt) refl (block_says whole b rest w))

  maybe_setup_says : (o : Option (List ℕ)) (rest : List ℕ) → IfThere o → Says whole (maybe_block whole kinds.Setup).texts (with_maybe_setup o rest) o rest
  maybe_setup_says None rest w = nothing_says (maybe_block whole kinds.Setup).texts rest None (inr (refl, refl))
  maybe_setup_says (Some b) rest w = λ at h.
      let x = setup_says b rest w at h in
      record { next = x.next; tokens = x.tokens; cut = x.cut; stands = x.stands; says = inl (b, x.says, refl) }

  teardown_says : (o : Option (List ℕ)) (rest : List ℕ) → IfThere o → Says whole (maybe_block whole kinds.Teardown).texts (with_teardown o rest) o rest
  teardown_says None rest w = nothing_says (maybe_block whole kinds.Teardown).texts rest None (inr (refl, refl))
  teardown_says (Some b) rest w = λ at h.
      let x = blank_says whole (block_of whole kinds.Teardown).texts (codes "teardown" ++ with_block b rest) b rest
      (word_says whole kinds.Teardown (codes "teardown") 8 (block whole) (braced b ++ rest) b rest refl refl (lit< tt) refl (block_says whole b rest w)) at h in
      record { next = x.next; tokens = x.tokens; cut = x.cut; stands = x.stands; says = inl (b, x.says, refl) }

  -- lists
  module _ {A : Type 0} (p : Rule Token A) (write : A → List ℕ → List ℕ) (P : A → Type 0) (spaced : (x : A) (r : List ℕ) → Spaced (write x r))
      (item : (x : A) (r : List ℕ) → P x → Spaced r → Says whole p.texts (write x r) x r) where
    abbrev listed : List Token → List A → Type 0
    listed ts xs = many_texts p.texts xs ts

    many_says : (xs : List A) (rest : List ℕ) → Each P xs → Spaced rest → Says whole listed (all_of write xs rest) xs rest
    many_says [] rest w s = nothing_says listed rest [] refl
    many_says (x ∷ xs) rest w s = λ at h.
        let y = item x (all_of write xs rest) w.0 (all_spaced write spaced xs rest s) at h in
        let z = many_says xs rest w.1 s y.next y.stands in
        record {
          next = z.next;
          tokens = y.tokens ++ z.tokens;
          cut = y.cut ∙ (ap (λ (v : List Token). y.tokens ++ v) z.cut ∙ sym (append_assoc y.tokens z.tokens (tokens_from 0 z.next rest)));
          stands = z.stands;
          says = (y.tokens, z.tokens, refl, y.says, z.says);
        }

    some_says : (c : Class Token) (xs : List A) (rest : List ℕ) → xs ≢ [] → Each P xs → Spaced rest → Says whole (words.some c p).texts (all_of write xs rest) xs rest
    some_says c [] rest n w s = absurd (n refl)
    some_says c (x ∷ xs) rest n w s =
        value_says whole words.cons_of (both p (many c p)) (all_of write (x ∷ xs) rest) (x, xs) rest
        (both_says whole p (many c p) (all_of write (x ∷ xs) rest) (all_of write xs rest) rest x xs
        (item x (all_of write xs rest) w.0 (all_spaced write spaced xs rest s))
        (many_says xs rest w.1 s))

  step_says : (t : StepSpec) (rest : List ℕ) → IsStep t → Spaced rest → Says whole (step whole).texts (with_step t rest) t rest
  step_says t rest w s =
      blank_says whole (step whole).texts (codes "step" ++ with_name t.name (with_block t.block rest)) t rest
      (word_says whole kinds.Step (codes "step") 4 (as_value step_of (both (name whole) (block whole))) (quoted t.name ++ with_block t.block rest) t rest refl refl (lit< tt) refl
      (value_says whole step_of (both (name whole) (block whole)) (quoted t.name ++ with_block t.block rest) (t.name, t.block) rest
      (both_says whole (name whole) (block whole) (quoted t.name ++ with_block t.block rest) (with_block t.block rest) rest t.name t.block
      (name_says whole t.name (with_block t.block rest) w.0 (blank (braced t.block ++ rest)))
      (one_block t.block rest w.1))))

  session_says : (x : SessionSpec) (rest : List ℕ) → IsSession x → Spaced rest → Says whole (session whole).texts (with_session x rest) x rest
  session_says x rest w s =
      let after_steps : List ℕ = with_teardown x.teardown rest in
      let after_setup : List ℕ = all_of with_step x.steps after_steps in
      let after_name : List ℕ = with_maybe_setup x.setup after_setup in
      let spaced_steps : Spaced after_steps = teardown_spaced x.teardown rest s in
      let spaced_setup : Spaced after_setup = all_spaced with_step (λ t r. blank (codes "step" ++ with_name t.name (with_block t.block r))) x.steps after_steps spaced_steps in
      let steps : Rule Token (List StepSpec) = words.some (a kinds.Step) (step whole) in
      let down : Rule Token (Option (List ℕ)) = maybe_block whole kinds.Teardown in
      let up : Rule Token (Option (List ℕ)) = maybe_block whole kinds.Setup in
      blank_says whole (session whole).texts (codes "session" ++ with_name x.name after_name) x rest
      (word_says whole kinds.Session (codes "session") 7 (as_value session_of (both (name whole) (both up (both steps down)))) (quoted x.name ++ after_name) x rest refl refl (lit< tt) refl
      (value_says whole session_of (both (name whole) (both up (both steps down))) (quoted x.name ++ after_name) (x.name, (x.setup, (x.steps, x.teardown))) rest
      (both_says whole (name whole) (both up (both steps down)) (quoted x.name ++ after_name) after_name rest x.name (x.setup, (x.steps, x.teardown))
      (name_says whole x.name after_name w.0 (setup_spaced x.setup after_setup spaced_setup))
      (both_says whole up (both steps down) after_name after_setup rest x.setup (x.steps, x.teardown)
      (maybe_setup_says x.setup after_setup w.1)
      (both_says whole steps down after_setup after_steps rest x.steps x.teardown
      (some_says (step whole) with_step IsStep (λ t r. blank (codes "step" ++ with_name t.name (with_block t.block r))) step_says (a kinds.Step) x.steps after_steps w.2 w.3 spaced_steps)
      (teardown_says x.teardown rest w.4))))))

  -- a token of the kind, then a text of P
  abbrev Signed : {A : Type 0} → ScriptTokenKind → (List Token → A → Type 0) → List Token → A → Type 0
  Signed k P ts x = (t : Token) × (v : List Token) × (ts ≡ t ∷ v) × (is t.kind k ≡ true) × P v x

  from_signed : {A : Type 0} (k : ScriptTokenKind) (p : Rule Token A) (ts : List Token) (x : A) → Signed k p.texts ts x → (behind (a k) p).texts ts x
  from_signed k p ts x s = ((s.0, x), (s.0 ∷ [], s.1, s.2, (refl, s.3), s.4), refl)

  sign_says : {A : Type 0} (k : ScriptTokenKind) (w : List ℕ) (n : ℕ) (P : List Token → A → Type 0) (text : List ℕ) (x : A) (rest : List ℕ) →
      piece_of (w ++ text) ≡ token k n → length w ≡ n → 0 < n → is k k ≡ true → Says whole P text x rest → Says whole (Signed k P) (32 ∷ (w ++ text)) x rest
  sign_says k w n P text x rest e size some same l =
      blank_says whole (Signed k P) (w ++ text) x rest (λ at h.
      let d : drop n (w ++ text) ≡ text = ap (λ (z : ℕ). drop z (w ++ text)) (sym size) ∙ drop-append_seam w text in
      let t : Token = record { kind = k; start = at; end = at + n } in
      let y = l (at + n) (moved whole at n (w ++ text) text h d) in
      record {
        next = y.next;
        tokens = t ∷ y.tokens;
        cut = token_at at (w ++ text) k n text e (omega (arith, length-append w text)) some d ∙ ap (λ (z : List Token). t ∷ z) y.cut;
        stands = y.stands;
        says = (t, y.tokens, refl, same, y.says);
      })

  -- markers
  star_says : (rest : List ℕ) → Says whole (marker whole).texts (42 ∷ rest) written.Waiting rest
  star_says rest = λ at h.
      let t : Token = record { kind = kinds.Star; start = at; end = at + 1 } in
      record {
        next = at + 1;
        tokens = t ∷ [];
        cut = token_at at (42 ∷ rest) kinds.Star 1 rest refl (omega arith) (omega arith) refl;
        stands = moved whole at 1 (42 ∷ rest) rest h refl;
        says = inl (t, (refl, refl), refl);
      }

  marker_says : (m : WrittenMarker) (rest : List ℕ) → IsMarker m → Spaced rest → Says whole (marker whole).texts (with_marker m rest) m rest
  marker_says written.Waiting rest w s = blank_says whole (marker whole).texts (42 ∷ rest) written.Waiting rest (star_says rest)
  marker_says (written.After n) rest w s = λ at h.
      let x = both_says whole (name whole) notices (with_name n rest) rest rest n None (one_name n rest w s) (nothing_says notices.texts rest None (inr (refl, refl))) at h in
      record { next = x.next; tokens = x.tokens; cut = x.cut; stands = x.stands; says = inr ((n, None), x.says, refl) }
  marker_says written.Notices rest w s = absurd (w tt)

  abbrev more_markers : List WrittenMarker → List Token → List WrittenMarker → Type 0
  more_markers l ts xs = repeats_texts always words.snoc (λ (z : List WrittenMarker). (both (one (a kinds.Comma)) (marker whole)).texts) l ts xs

  commas_spaced : (ms : List WrittenMarker) (rest : List ℕ) → Spaced rest → Spaced (all_of with_comma ms rest)
  commas_spaced ms rest s = all_spaced with_comma (λ m r. blank (44 ∷ with_marker m r)) ms rest s

  commas_say : (l ms : List WrittenMarker) (rest : List ℕ) → Each IsMarker ms → Spaced rest → Says whole (more_markers l) (all_of with_comma ms rest) (l ++ ms) rest
  commas_say l [] rest w s = nothing_says (more_markers l) rest (l ++ []) ([], (refl, append-nil l))
  commas_say l (m ∷ ms) rest w s = λ at h.
      let behind_it : List ℕ = all_of with_comma ms rest in
      let x = sign_says kinds.Comma (44 ∷ []) 1 (marker whole).texts (with_marker m behind_it) m behind_it refl refl (omega arith) refl (marker_says m behind_it w.0 (commas_spaced ms rest s)) at h in
      let z = commas_say (l ++ m ∷ []) ms rest w.1 s x.next x.stands in
      record {
        next = z.next;
        tokens = x.tokens ++ z.tokens;
        cut = x.cut ∙ (ap (λ (v : List Token). x.tokens ++ v) z.cut ∙ sym (append_assoc x.tokens z.tokens (tokens_from 0 z.next rest)));
        stands = z.stands;
        says = subst (λ (y : List WrittenMarker). more_markers l (x.tokens ++ z.tokens) y) (append_assoc l (m ∷ []) ms)
            ((x.says.0, m) ∷ z.says.0, (refl, x.tokens, z.tokens, refl, (x.says.0 ∷ [], x.says.1, x.says.2, (refl, x.says.3), x.says.4), z.says.1));
      }

  listed_markers : (m : WrittenMarker) (ms : List WrittenMarker) (rest : List ℕ) → Each IsMarker (m ∷ ms) → Spaced rest →
      Says whole (words.separated (a kinds.Comma) (marker whole)).texts (with_marker m (all_of with_comma ms rest)) (m ∷ ms) rest
  listed_markers m ms rest w s = λ at h.
      let y = marker_says m (all_of with_comma ms rest) w.0 (commas_spaced ms rest s) at h in
      let z = commas_say (m ∷ []) ms rest w.1 s y.next y.stands in
      record {
        next = z.next;
        tokens = y.tokens ++ z.tokens;
        cut = y.cut ∙ (ap (λ (v : List Token). y.tokens ++ v) z.cut ∙ sym (append_assoc y.tokens z.tokens (tokens_from 0 z.next rest)));
        stands = z.stands;
        says = ((m, m ∷ ms), (y.tokens, z.tokens, refl, y.says, z.says), refl);
      }

  abbrev no_tokens : List Token → Unit {0} → Type 0
  no_tokens v u = v ≡ []

  closed_markers : (m : WrittenMarker) (ms : List WrittenMarker) (rest : List ℕ) → Each IsMarker (m ∷ ms) →
      Says whole (before (a kinds.CloseParenthesis) (words.separated (a kinds.Comma) (marker whole))).texts (with_marker m (all_of with_comma ms (32 ∷ 41 ∷ rest))) (m ∷ ms) rest
  closed_markers m ms rest w = λ at h.
      let y = listed_markers m ms (32 ∷ 41 ∷ rest) w (blank (41 ∷ rest)) at h in
      let z = sign_says kinds.CloseParenthesis (41 ∷ []) 1 no_tokens rest tt rest refl refl (omega arith) refl (nothing_says no_tokens rest tt refl) y.next y.stands in
      record {
        next = z.next;
        tokens = y.tokens ++ z.tokens;
        cut = y.cut ∙ (ap (λ (v : List Token). y.tokens ++ v) z.cut ∙ sym (append_assoc y.tokens z.tokens (tokens_from 0 z.next rest)));
        stands = z.stands;
        says = ((m ∷ ms, z.says.0), (y.tokens, z.tokens, refl, y.says, (z.says.2 ∙ ap (λ (v : List Token). z.says.0 ∷ v) z.says.4, z.says.3)), refl);
      }

  markers_say : (ms : List WrittenMarker) (rest : List ℕ) → Each IsMarker ms → Says whole (maybe_markers whole).texts (with_markers ms rest) ms rest
  markers_say [] rest w = nothing_says (maybe_markers whole).texts rest [] (None, inr (refl, refl), refl)
  markers_say (m ∷ ms) rest w = λ at h.
      let closed : Rule Token (List WrittenMarker) = before (a kinds.CloseParenthesis) (words.separated (a kinds.Comma) (marker whole)) in
      let x = sign_says kinds.OpenParenthesis (40 ∷ []) 1 closed.texts (with_marker m (all_of with_comma ms (32 ∷ 41 ∷ rest))) (m ∷ ms) rest refl refl (omega arith) refl (closed_markers m ms rest w) at h in
      record { next = x.next; tokens = x.tokens; cut = x.cut; stands = x.stands; says = (Some (m ∷ ms), inl (m ∷ ms, from_signed kinds.OpenParenthesis closed x.tokens (m ∷ ms) x.says, refl), refl) }

  use_says : (u : WrittenUse) (rest : List ℕ) → IsUse u → Spaced rest → Says whole (one_use whole).texts (with_use u rest) u rest
  use_says u rest w s =
      value_says whole use_of (both (name whole) (maybe_markers whole)) (with_use u rest) (u.step, u.markers) rest
      (both_says whole (name whole) (maybe_markers whole) (with_use u rest) (with_markers u.markers rest) rest u.step u.markers
      (one_name u.step (with_markers u.markers rest) w.0 (markers_spaced u.markers rest s)) (markers_say u.markers rest w.1))

  use_spaced : (u : WrittenUse) (r : List ℕ) → Spaced (with_use u r)
  use_spaced u r = blank (quoted u.step ++ with_markers u.markers r)

  permutation_says : (us : List WrittenUse) (rest : List ℕ) → IsPermutation us → Spaced rest → Says whole (permutation whole).texts (with_permutation us rest) us rest
  permutation_says [] rest w s = absurd (w.0 refl)
  permutation_says (u ∷ us) rest w s = λ at h.
      let uses : Rule Token (List WrittenUse) = words.some a_name (one_use whole) in
      let x = sign_says kinds.Permutation (codes "permutation") 11 uses.texts (all_of with_use (u ∷ us) rest) (u ∷ us) rest refl refl (lit< tt) refl
      (some_says (one_use whole) with_use IsUse use_spaced use_says a_name (u ∷ us) rest w.0 w.1 s) at h in
      record { next = x.next; tokens = x.tokens; cut = x.cut; stands = x.stands; says = from_signed kinds.Permutation uses x.tokens (u ∷ us) x.says }

  session_spaced : (x : SessionSpec) (r : List ℕ) → Spaced (with_session x r)
  session_spaced x r = blank (codes "session" ++ with_name x.name (with_maybe_setup x.setup (all_of with_step x.steps (with_teardown x.teardown r))))

  permutation_spaced : (us : List WrittenUse) (r : List ℕ) → Spaced (with_permutation us r)
  permutation_spaced us r = blank (codes "permutation" ++ all_of with_use us r)

  setups_spaced : (b r : List ℕ) → Spaced (with_setup b r)
  setups_spaced b r = blank (codes "setup" ++ with_block b r)

  script_says : (w : WrittenSpec) → Each IsBlock w.setups → IfThere w.teardown → w.sessions ≢ [] → Each IsSession w.sessions → Each IsPermutation w.permutations → Says whole (script whole).texts (written_text w) w []
  script_says w setups down some sessions permutations =
      let ends : Spaced [] = refl in
      let after_sessions : List ℕ = all_of with_permutation w.permutations [] in
      let after_down : List ℕ = all_of with_session w.sessions after_sessions in
      let after_setups : List ℕ = with_teardown w.teardown after_down in
      let spaced_sessions : Spaced after_sessions = all_spaced with_permutation permutation_spaced w.permutations [] ends in
      let spaced_down : Spaced after_down = all_spaced with_session session_spaced w.sessions after_sessions spaced_sessions in
      let spaced_setups : Spaced after_setups = teardown_spaced w.teardown after_down spaced_down in
      let one : Rule Token (List (List ℕ)) = many (a kinds.Setup) (setup whole) in
      let two : Rule Token (Option (List ℕ)) = maybe_block whole kinds.Teardown in
      let three : Rule Token (List SessionSpec) = words.some (a kinds.Session) (session whole) in
      let four : Rule Token (List (List WrittenUse)) = many (a kinds.Permutation) (permutation whole) in
      value_says whole script_of (both one (both two (both three four))) (written_text w) (w.setups, (w.teardown, (w.sessions, w.permutations))) []
      (both_says whole one (both two (both three four)) (written_text w) after_setups [] w.setups (w.teardown, (w.sessions, w.permutations))
      (many_says (setup whole) with_setup IsBlock setups_spaced (λ b r u v. setup_says b r u) w.setups after_setups setups spaced_setups)
      (both_says whole two (both three four) after_setups after_down [] w.teardown (w.sessions, w.permutations)
      (teardown_says w.teardown after_down down)
      (both_says whole three four after_down after_sessions [] w.sessions w.permutations
      (some_says (session whole) with_session IsSession session_spaced session_says (a kinds.Session) w.sessions after_sessions some sessions spaced_sessions)
      (many_says (permutation whole) with_permutation IsPermutation permutation_spaced permutation_says w.permutations [] permutations ends))))

-- what is written of a script says that script
markers_back : (ms : List Marker) → markers_of (map marker_as ms) ≡ ms
markers_back [] = refl
markers_back (marks.Waiting ∷ ms) = ap (λ (z : List Marker). marks.Waiting ∷ z) (markers_back ms)
markers_back (marks.After n ∷ ms) = ap (λ (z : List Marker). marks.After n ∷ z) (markers_back ms)

abbrev use_with : List ℕ → List Marker → StepUse
use_with step ms = record { step = step; markers = ms }

uses_back : (us : List StepUse) → uses_of (uses_as us) ≡ us
uses_back [] = refl
uses_back (u ∷ us) = ap (λ (z : List Marker). use_with u.step z ∷ uses_of (uses_as us)) (markers_back u.markers) ∙ ap (λ (z : List StepUse). u ∷ z) (uses_back us)

permutations_back : (ps : List (List StepUse)) → map uses_of (map uses_as ps) ≡ ps
permutations_back [] = refl
permutations_back (p ∷ ps) = ap (λ (z : List StepUse). z ∷ map uses_of (map uses_as ps)) (uses_back p) ∙ ap (λ (z : List (List StepUse)). p ∷ z) (permutations_back ps)

abbrev spec_with : Spec → List (List StepUse) → Spec
spec_with s ps = record { setups = s.setups; teardown = s.teardown; sessions = s.sessions; permutations = ps }

pub script_back : (s : Spec) → IsWritableScript s → IsScript (script_text s) s
script_back s w =
    let text : List ℕ = script_text s in
    let x = script_says text (written_as s) w.setups w.teardown w.some w.sessions w.permutations 0 refl in
    let e : tokens_of text ≡ x.tokens = sym (tokens_of_utf8 text w.utf8) ∙ (x.cut ∙ (ap (λ (z : List Token). x.tokens ++ z) (tokens_end x.next) ∙ append-nil x.tokens)) in
    let P : List Token → Type 0 = λ (z : List Token). (script text).texts z (written_as s) in
    (written_as s, subst P (sym e) x.says, w.keeps, sym (ap (spec_with s) (permutations_back s.permutations)))
