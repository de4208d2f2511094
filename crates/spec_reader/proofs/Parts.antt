-- Parts of a text that a rule reads, wherever in the text they stand.
use Rattle.std.proofs.Common.{◌≡◌, ◌<◌, ℕ, suc, ◌+◌, ◌-◌, Bool, true, false, not, ◌&&◌, ◌==◌, List, [], ◌∷◌, ◌++◌, Option, Some, length, take, drop, refl, sym, ap, ◌∙◌, subst, arith, append_assoc, length-append, slice_index}
use Rattle.std.specs.List.{list_all, prefix_len}
use Rattle.std.proofs.lemmas.Bool.{lt-ltb}
use Rattle.std.proofs.lemmas.List.{drop-drop}
use Rattle.std.proofs.Math.Seq.{take-append_seam, drop-append_seam}
use Rattle.grammar.specs.Reading.{Rule, both, behind, as_value}
use Rattle.spec_reader.specs.declared.bytes.Run.TheVariants as runs
use Rattle.spec_reader.specs.declared.kind.ScriptTokenKind.{ScriptTokenKind}
use Rattle.spec_reader.specs.declared.kind.ScriptTokenKind.TheVariants as kinds
use Rattle.spec_reader.specs.declared.token.Token.{Token}
use Rattle.spec_reader.specs.Bytes.{goes_on, trimmed}
use Rattle.grammar.specs.TextPlaces.{inside, slice}
use Rattle.grammar.specs.Quotes.{closing, doubled, undoubled}
use Rattle.grammar.proofs.QuotedBack.{closing_doubled, inside-quoted, length_quoted, undoubled-doubled}
use Rattle.spec_reader.specs.Pieces.{piece_of, token, gap, quoted_to, fault}
use Rattle.spec_reader.specs.Pieces as pieces
use Rattle.spec_reader.specs.Tokens.{tokens_from}
use Rattle.spec_reader.specs.Contents.{name_in, block_in}
use Rattle.spec_reader.specs.Words.{is}
use Rattle.spec_reader.specs.Scripts.{a as kind_of, name, block}
use Rattle.spec_reader.specs.Written.{quoted, braced, IsOneLine, IsBlock}
use Rattle.spec_reader.proofs.TokenSteps.{piece_step}

-- the tokens at the front of a text, which say a, and where the rest stands
pub record Part {A : Type 0} (whole : List ℕ) (P : List Token → A → Type 0) (at : ℕ) (text : List ℕ) (a : A) (rest : List ℕ) : Type 0 where
  pub next : ℕ
  pub tokens : List Token
  pub cut : tokens_from 0 at text ≡ tokens ++ tokens_from 0 next rest
  pub stands : drop next whole ≡ rest
  pub says : P tokens a

-- wherever it stands in the whole
abbrev pub Says : {A : Type 0} → List ℕ → (List Token → A → Type 0) → List ℕ → A → List ℕ → Type 0
Says whole P text a rest = (at : ℕ) → drop at whole ≡ text → Part whole P at text a rest

pub moved : (whole : List ℕ) (at n : ℕ) (text rest : List ℕ) → drop at whole ≡ text → drop n text ≡ rest → drop (at + n) whole ≡ rest
moved whole at n text rest h e = sym (drop-drop n at whole) ∙ (ap (λ (x : List ℕ). drop n x) h ∙ e)

-- one token, and a blank
pub token_at : (at : ℕ) (text : List ℕ) (k : ScriptTokenKind) (n : ℕ) (rest : List ℕ) → piece_of text ≡ token k n → 0 < length text → 0 < n → drop n text ≡ rest →
    tokens_from 0 at text ≡ record { kind = k; start = at; end = at + n } ∷ tokens_from 0 (at + n) rest
token_at at text k n rest e h j d = piece_step at text (token k n) e h j ∙ ap (λ (x : List ℕ). record { kind = k; start = at; end = at + n } ∷ tokens_from 0 (at + n) x) d

blank_at : (at : ℕ) (text : List ℕ) → tokens_from 0 at (32 ∷ text) ≡ tokens_from 0 (at + 1) text
blank_at at text = piece_step at (32 ∷ text) (gap 1) refl (omega arith) (omega arith)

module _ (whole : List ℕ) where
  pub value_says : {A B : Type 0} (f : A → B) (p : Rule Token A) (text : List ℕ) (a : A) (rest : List ℕ) → Says whole p.texts text a rest → Says whole (as_value f p).texts text (f a) rest
  value_says f p text a rest l at h = let x = l at h in record { next = x.next; tokens = x.tokens; cut = x.cut; stands = x.stands; says = (a, x.says, refl) }

  pub both_says : {A B : Type 0} (p : Rule Token A) (q : Rule Token B) (text mid rest : List ℕ) (a : A) (b : B) → Says whole p.texts text a mid → Says whole q.texts mid b rest → Says whole (both p q).texts text (a, b) rest
  both_says p q text mid rest a b l m at h =
      let x = l at h in
      let y = m x.next x.stands in
      record {
        next = y.next;
        tokens = x.tokens ++ y.tokens;
        cut = x.cut ∙ (ap (λ (z : List Token). x.tokens ++ z) y.cut ∙ sym (append_assoc x.tokens y.tokens (tokens_from 0 y.next rest)));
        stands = y.stands;
        says = (x.tokens, y.tokens, refl, x.says, y.says);
      }

  pub blank_says : {A : Type 0} (P : List Token → A → Type 0) (text : List ℕ) (a : A) (rest : List ℕ) → Says whole P text a rest → Says whole P (32 ∷ text) a rest
  blank_says P text a rest l at h =
      let x = l (at + 1) (moved whole at 1 (32 ∷ text) text h refl) in
      record { next = x.next; tokens = x.tokens; cut = blank_at at text ∙ x.cut; stands = x.stands; says = x.says }

  -- a word and a blank
  pub word_says : {A : Type 0} (k : ScriptTokenKind) (w : List ℕ) (n : ℕ) (p : Rule Token A) (text : List ℕ) (a : A) (rest : List ℕ) →
      piece_of (w ++ 32 ∷ text) ≡ token k n → length w ≡ n → 0 < n → is k k ≡ true → Says whole p.texts text a rest → Says whole (behind (kind_of k) p).texts (w ++ 32 ∷ text) a rest
  word_says k w n p text a rest e size some same l at h =
      let d : drop n (w ++ 32 ∷ text) ≡ 32 ∷ text = ap (λ (z : ℕ). drop z (w ++ 32 ∷ text)) (sym size) ∙ drop-append_seam w (32 ∷ text) in
      let t : Token = record { kind = k; start = at; end = at + n } in
      let x = blank_says p.texts text a rest l (at + n) (moved whole at n (w ++ 32 ∷ text) (32 ∷ text) h d) in
      record {
        next = x.next;
        tokens = t ∷ x.tokens;
        cut = token_at at (w ++ 32 ∷ text) k n (32 ∷ text) e (omega (arith, length-append w (32 ∷ text))) some d ∙ ap (λ (z : List Token). t ∷ z) x.cut;
        stands = x.stands;
        says = ((t, a), (t ∷ [], x.tokens, refl, (refl, same), x.says), refl);
      }

-- what stands at a place
slice_is : (whole : List ℕ) (at : ℕ) (part rest : List ℕ) → drop at whole ≡ part ++ rest → slice whole at (at + length part) ≡ part
slice_is whole at part rest h =
    let e : at + length part - at ≡ length part = omega arith in
    ap (λ (n : ℕ). take n (drop at whole)) e ∙ (ap (λ (x : List ℕ). take (length part) x) h ∙ take-append_seam part rest)

inside_is : (a b : ℕ) (text : List ℕ) → inside (a ∷ (text ++ b ∷ [])) ≡ text
inside_is a b text =
    let e : length (a ∷ (text ++ b ∷ [])) - 2 ≡ length text = omega (arith, length-append text (b ∷ [])) in
    ap (λ (n : ℕ). take n (text ++ b ∷ [])) e ∙ take-append_seam text (b ∷ [])

and_left : (a b : Bool) → (a && b) ≡ true → a ≡ true
and_left true b h = refl
and_left false b h = cc

and_right : (a b : Bool) → (a && b) ≡ true → b ≡ true
and_right true b h = h
and_right false b h = cc

-- blocks
to_brace : (text rest : List ℕ) → list_all (λ b. not (b == 125)) text ≡ true → prefix_len (goes_on runs.Block) ((text ++ 125 ∷ []) ++ rest) ≡ length text
to_brace [] rest h = refl
to_brace (b ∷ text) rest h = rw (and_left (not (b == 125)) (list_all (λ c. not (c == 125)) text) h)
    (let e : 1 + prefix_len (goes_on runs.Block) ((text ++ 125 ∷ []) ++ rest) ≡ suc (length text) = omega (arith, to_brace text rest (and_right (not (b == 125)) (list_all (λ c. not (c == 125)) text) h)) in e)

block_piece : (text : List ℕ) (n : ℕ) → prefix_len (goes_on runs.Block) text ≡ n → n < length text → pieces.block text ≡ token kinds.Block (suc n)
block_piece text n e h = rw (e, lt-ltb n (length text) h) refl

braced_piece : (text rest : List ℕ) → list_all (λ b. not (b == 125)) text ≡ true → piece_of (braced text ++ rest) ≡ token kinds.Block (length (braced text))
braced_piece text rest h =
    let e : prefix_len (goes_on runs.Block) (braced text ++ rest) ≡ suc (length text) = let k : 1 + prefix_len (goes_on runs.Block) ((text ++ 125 ∷ []) ++ rest) ≡ suc (length text) = omega (arith, to_brace text rest h) in k in
    let size : suc (suc (length text)) ≡ length (braced text) = omega (arith, length-append text (125 ∷ [])) in
    block_piece (braced text ++ rest) (suc (length text)) e (omega (arith, length-append (braced text) rest, size)) ∙ ap (λ (n : ℕ). token kinds.Block n) size

pub block_says : (whole text rest : List ℕ) → IsBlock text → Says whole (block whole).texts (braced text ++ rest) text rest
block_says whole text rest w at h =
    let t : Token = record { kind = kinds.Block; start = at; end = at + length (braced text) } in
    let d : drop (length (braced text)) (braced text ++ rest) ≡ rest = drop-append_seam (braced text) rest in
    let said : block_in whole t ≡ text = ap (λ (x : List ℕ). trimmed (inside x)) (slice_is whole at (braced text) rest h) ∙ (ap (λ (x : List ℕ). trimmed x) (inside_is 123 125 text) ∙ w.1) in
    record {
      next = at + length (braced text);
      tokens = t ∷ [];
      cut = token_at at (braced text ++ rest) kinds.Block (length (braced text)) rest (braced_piece text rest w.0) (omega (arith, length-append (braced text) rest)) (omega arith) d;
      stands = moved whole at (length (braced text)) (braced text ++ rest) rest h d;
      says = (t, (refl, refl), sym said);
    }

-- quoted names
on_line : (p : ℕ → Bool) (b n : ℕ) (z : List ℕ) → p b ≡ true → prefix_len p z ≡ n → prefix_len p (b ∷ z) ≡ suc n
on_line p b n z h e = rw h (let k : 1 + prefix_len p z ≡ suc n = omega (arith, e) in k)

abbrev OnLine : List ℕ → Type 0
OnLine z = prefix_len (goes_on runs.Comment) z ≡ length z

doubled_on_line : (text : List ℕ) → IsOneLine text → OnLine (doubled 34 text ++ 34 ∷ [])
doubled_on_line [] h = refl
doubled_on_line (b ∷ text) h = go (b == 34) refl (doubled_on_line text (and_right (not (b == 10)) (list_all (λ c. not (c == 10)) text) h))
  where
    go : (q : Bool) → (b == 34) ≡ q → OnLine (doubled 34 text ++ 34 ∷ []) → OnLine (doubled 34 (b ∷ text) ++ 34 ∷ [])
    go true q ih =
        let z : List ℕ = doubled 34 text ++ 34 ∷ [] in
        rw q (on_line (goes_on runs.Comment) 34 (length (34 ∷ z)) (34 ∷ z) refl (on_line (goes_on runs.Comment) 34 (length z) z refl ih))
    go false q ih =
        let z : List ℕ = doubled 34 text ++ 34 ∷ [] in
        rw q (on_line (goes_on runs.Comment) b (length z) z (and_left (not (b == 10)) (list_all (λ c. not (c == 10)) text) h) ih)

quoted_on_line : (text : List ℕ) → IsOneLine text → OnLine (quoted text)
quoted_on_line text h = on_line (goes_on runs.Comment) 34 (length (doubled 34 text ++ 34 ∷ [])) (doubled 34 text ++ 34 ∷ []) refl (doubled_on_line text h)

to_quote : (text rest : List ℕ) → (slice_index rest 0 == 34) ≡ false → closing 34 false 1 ((doubled 34 text ++ 34 ∷ []) ++ rest) ≡ Some (length (quoted text))
to_quote text rest e =
    let n : 1 + length (doubled 34 text) + 1 ≡ length (quoted text) = omega (arith, length_quoted 34 text) in
    ap (closing 34 false 1) (append_assoc (doubled 34 text) (34 ∷ []) rest) ∙ (closing_doubled 34 1 text rest refl e ∙ ap (λ (k : ℕ). Some k) n)

closed_there : (text : List ℕ) (n : ℕ) → OnLine (take n text) → quoted_to text (Some n) ≡ token kinds.QuotedName n
closed_there text n h = let e : (prefix_len (goes_on runs.Comment) (take n text) == length (take n text)) ≡ true = grind (arith, h) in rw e refl

quoted_piece : (text rest : List ℕ) → IsOneLine text → (slice_index rest 0 == 34) ≡ false → piece_of (quoted text ++ rest) ≡ token kinds.QuotedName (length (quoted text))
quoted_piece text rest h e =
    let front : take (length (quoted text)) (quoted text ++ rest) ≡ quoted text = take-append_seam (quoted text) rest in
    ap (λ (o : Option ℕ). quoted_to (quoted text ++ rest) o) (to_quote text rest e)
    ∙ closed_there (quoted text ++ rest) (length (quoted text)) (subst OnLine (sym front) (quoted_on_line text h))

pub name_says : (whole text rest : List ℕ) → IsOneLine text → (slice_index rest 0 == 34) ≡ false → Says whole (name whole).texts (quoted text ++ rest) text rest
name_says whole text rest w e at h =
    let t : Token = record { kind = kinds.QuotedName; start = at; end = at + length (quoted text) } in
    let d : drop (length (quoted text)) (quoted text ++ rest) ≡ rest = drop-append_seam (quoted text) rest in
    let said : name_in whole t ≡ text = ap (λ (x : List ℕ). undoubled 34 false (inside x)) (slice_is whole at (quoted text) rest h) ∙ (ap (undoubled 34 false) (inside-quoted 34 text) ∙ undoubled-doubled 34 text refl) in
    record {
      next = at + length (quoted text);
      tokens = t ∷ [];
      cut = token_at at (quoted text ++ rest) kinds.QuotedName (length (quoted text)) rest (quoted_piece text rest w e) (omega (arith, length-append (quoted text) rest)) (omega arith) d;
      stands = moved whole at (length (quoted text)) (quoted text ++ rest) rest h d;
      says = (t, (refl, refl), sym said);
    }
