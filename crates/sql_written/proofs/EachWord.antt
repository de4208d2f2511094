-- Each word of a statement is one word, of its kind.
use Rattle.std.proofs.Common.{◌≡◌, Bool, true, slice_index, length, refl}
use Rattle.std.specs.List.{prefix_len}
use Rattle.std.specs.Prelude.{nat_lt}
use Rattle.sql_tokens.specs.Bytes.{belongs}
use Rattle.sql_tokens.specs.Words.{is, word_kind}
use Rattle.sql_tokens.specs.declared.bytes.Class.TheVariants as class
use Rattle.sql_tokens.specs.declared.kind.TokenKind.{TokenKind}
use Rattle.sql_tokens.specs.declared.kind.TokenKind.TheVariants as kinds
use Rattle.sql_written.proofs.Fronts.{is_ascii}
use Rattle.sql_written.specs.Words.{capitals}

pub record IsWord (k : TokenKind) : Type 0 where
  pub start : belongs class.NameStart (slice_index (capitals k) 0) ≡ true
  pub parts : prefix_len (belongs class.NamePart) (capitals k) ≡ length (capitals k)
  pub ascii : is_ascii (capitals k) ≡ true
  pub kind : word_kind (capitals k) ≡ k
  pub self : is k k ≡ true

abbrev pub is_written : TokenKind → Bool
is_written k = nat_lt 0 (length (capitals k))

pub word_is : (k : TokenKind) → is_written k ≡ true → IsWord k
unfolding word_kind
word_is kinds.Access h = record { start = refl; parts = refl; ascii = refl; kind = refl; self = refl }
word_is kinds.All h = record { start = refl; parts = refl; ascii = refl; kind = refl; self = refl }
word_is kinds.Alter h = record { start = refl; parts = refl; ascii = refl; kind = refl; self = refl }
word_is kinds.Analyze h = record { start = refl; parts = refl; ascii = refl; kind = refl; self = refl }
word_is kinds.As h = record { start = refl; parts = refl; ascii = refl; kind = refl; self = refl }
word_is kinds.Attach h = record { start = refl; parts = refl; ascii = refl; kind = refl; self = refl }
word_is kinds.Begin h = record { start = refl; parts = refl; ascii = refl; kind = refl; self = refl }
word_is kinds.By h = record { start = refl; parts = refl; ascii = refl; kind = refl; self = refl }
word_is kinds.Commit h = record { start = refl; parts = refl; ascii = refl; kind = refl; self = refl }
word_is kinds.Committed h = record { start = refl; parts = refl; ascii = refl; kind = refl; self = refl }
word_is kinds.Concurrently h = record { start = refl; parts = refl; ascii = refl; kind = refl; self = refl }
word_is kinds.Create h = record { start = refl; parts = refl; ascii = refl; kind = refl; self = refl }
word_is kinds.Deallocate h = record { start = refl; parts = refl; ascii = refl; kind = refl; self = refl }
word_is kinds.Default h = record { start = refl; parts = refl; ascii = refl; kind = refl; self = refl }
word_is kinds.Delete h = record { start = refl; parts = refl; ascii = refl; kind = refl; self = refl }
word_is kinds.Desc h = record { start = refl; parts = refl; ascii = refl; kind = refl; self = refl }
word_is kinds.Detach h = record { start = refl; parts = refl; ascii = refl; kind = refl; self = refl }
word_is kinds.Drop h = record { start = refl; parts = refl; ascii = refl; kind = refl; self = refl }
word_is kinds.Exclusive h = record { start = refl; parts = refl; ascii = refl; kind = refl; self = refl }
word_is kinds.Execute h = record { start = refl; parts = refl; ascii = refl; kind = refl; self = refl }
word_is kinds.Exists h = record { start = refl; parts = refl; ascii = refl; kind = refl; self = refl }
word_is kinds.Explain h = record { start = refl; parts = refl; ascii = refl; kind = refl; self = refl }
word_is kinds.False h = record { start = refl; parts = refl; ascii = refl; kind = refl; self = refl }
word_is kinds.Finalize h = record { start = refl; parts = refl; ascii = refl; kind = refl; self = refl }
word_is kinds.First h = record { start = refl; parts = refl; ascii = refl; kind = refl; self = refl }
word_is kinds.For h = record { start = refl; parts = refl; ascii = refl; kind = refl; self = refl }
word_is kinds.From h = record { start = refl; parts = refl; ascii = refl; kind = refl; self = refl }
word_is kinds.Hash h = record { start = refl; parts = refl; ascii = refl; kind = refl; self = refl }
word_is kinds.If h = record { start = refl; parts = refl; ascii = refl; kind = refl; self = refl }
word_is kinds.In h = record { start = refl; parts = refl; ascii = refl; kind = refl; self = refl }
word_is kinds.Insert h = record { start = refl; parts = refl; ascii = refl; kind = refl; self = refl }
word_is kinds.Into h = record { start = refl; parts = refl; ascii = refl; kind = refl; self = refl }
word_is kinds.Isolation h = record { start = refl; parts = refl; ascii = refl; kind = refl; self = refl }
word_is kinds.Join h = record { start = refl; parts = refl; ascii = refl; kind = refl; self = refl }
word_is kinds.Last h = record { start = refl; parts = refl; ascii = refl; kind = refl; self = refl }
word_is kinds.Level h = record { start = refl; parts = refl; ascii = refl; kind = refl; self = refl }
word_is kinds.Limit h = record { start = refl; parts = refl; ascii = refl; kind = refl; self = refl }
word_is kinds.List h = record { start = refl; parts = refl; ascii = refl; kind = refl; self = refl }
word_is kinds.Lock h = record { start = refl; parts = refl; ascii = refl; kind = refl; self = refl }
word_is kinds.Maxvalue h = record { start = refl; parts = refl; ascii = refl; kind = refl; self = refl }
word_is kinds.Minvalue h = record { start = refl; parts = refl; ascii = refl; kind = refl; self = refl }
word_is kinds.Mode h = record { start = refl; parts = refl; ascii = refl; kind = refl; self = refl }
word_is kinds.Modulus h = record { start = refl; parts = refl; ascii = refl; kind = refl; self = refl }
word_is kinds.Not h = record { start = refl; parts = refl; ascii = refl; kind = refl; self = refl }
word_is kinds.Null h = record { start = refl; parts = refl; ascii = refl; kind = refl; self = refl }
word_is kinds.Nulls h = record { start = refl; parts = refl; ascii = refl; kind = refl; self = refl }
word_is kinds.Of h = record { start = refl; parts = refl; ascii = refl; kind = refl; self = refl }
word_is kinds.Offset h = record { start = refl; parts = refl; ascii = refl; kind = refl; self = refl }
word_is kinds.On h = record { start = refl; parts = refl; ascii = refl; kind = refl; self = refl }
word_is kinds.Only h = record { start = refl; parts = refl; ascii = refl; kind = refl; self = refl }
word_is kinds.Order h = record { start = refl; parts = refl; ascii = refl; kind = refl; self = refl }
word_is kinds.Partition h = record { start = refl; parts = refl; ascii = refl; kind = refl; self = refl }
word_is kinds.Prepare h = record { start = refl; parts = refl; ascii = refl; kind = refl; self = refl }
word_is kinds.Range h = record { start = refl; parts = refl; ascii = refl; kind = refl; self = refl }
word_is kinds.Read h = record { start = refl; parts = refl; ascii = refl; kind = refl; self = refl }
word_is kinds.Remainder h = record { start = refl; parts = refl; ascii = refl; kind = refl; self = refl }
word_is kinds.Repeatable h = record { start = refl; parts = refl; ascii = refl; kind = refl; self = refl }
word_is kinds.Reset h = record { start = refl; parts = refl; ascii = refl; kind = refl; self = refl }
word_is kinds.Rollback h = record { start = refl; parts = refl; ascii = refl; kind = refl; self = refl }
word_is kinds.Row h = record { start = refl; parts = refl; ascii = refl; kind = refl; self = refl }
word_is kinds.Select h = record { start = refl; parts = refl; ascii = refl; kind = refl; self = refl }
word_is kinds.Set h = record { start = refl; parts = refl; ascii = refl; kind = refl; self = refl }
word_is kinds.Share h = record { start = refl; parts = refl; ascii = refl; kind = refl; self = refl }
word_is kinds.Table h = record { start = refl; parts = refl; ascii = refl; kind = refl; self = refl }
word_is kinds.To h = record { start = refl; parts = refl; ascii = refl; kind = refl; self = refl }
word_is kinds.True h = record { start = refl; parts = refl; ascii = refl; kind = refl; self = refl }
word_is kinds.Uncommitted h = record { start = refl; parts = refl; ascii = refl; kind = refl; self = refl }
word_is kinds.Update h = record { start = refl; parts = refl; ascii = refl; kind = refl; self = refl }
word_is kinds.Values h = record { start = refl; parts = refl; ascii = refl; kind = refl; self = refl }
word_is kinds.Where h = record { start = refl; parts = refl; ascii = refl; kind = refl; self = refl }
word_is kinds.With h = record { start = refl; parts = refl; ascii = refl; kind = refl; self = refl }
word_is _ h = cc
