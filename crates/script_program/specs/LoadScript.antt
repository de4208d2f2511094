-- The script of a seed: its lines in order, with the numbers that are drawn for them.
use Rattle.std.specs.Prelude.{ℕ, ◌+◌, ◌*◌, ◌%◌, nat_lt, List, [], ◌∷◌, ◌++◌, map, replicate, codes, decimal, slice_index, slice_set, Option, Some, None, find}
use Rattle.std.specs.List.{range_with_len, slice_index_or}
use Rattle.script_program.specs.Draws.{Drawn, draw, drawn, fixed, for_each, in_turn, next_state, repeated, with_draw}
use Rattle.script_program.specs.Loads.{drawn_between}

-- ---- the table g, with a key k and a value v

-- a partition has ten keys
abbrev pub bound : ℕ → List ℕ
bound i = codes "FROM (" ++ decimal (10 * i) ++ codes ") TO (" ++ decimal (10 * i + 10) ++ codes ")"

abbrev pub table_line : List ℕ
table_line = codes "setup { CREATE TABLE g (k int, v int) PARTITION BY RANGE (k); }\n"

abbrev pub partition_line : ℕ → Drawn ℕ
partition_line i =
    fixed (codes "setup { CREATE TABLE g" ++ decimal i ++ codes " PARTITION OF g FOR VALUES " ++ bound i ++ codes "; }\n")

abbrev pub row : Drawn ℕ
row = in_turn (fixed (codes "(") ∷ drawn 320 ∷ fixed (codes ", ") ∷ drawn 1000 ∷ fixed (codes ")") ∷ [])

abbrev pub next_row : Drawn ℕ
next_row = in_turn (fixed (codes ", ") ∷ row ∷ [])

abbrev pub rows_line : Drawn ℕ
rows_line =
    in_turn (fixed (codes "setup { INSERT INTO g VALUES ") ∷ row ∷ repeated 511 next_row ∷ fixed (codes "; }\n") ∷ [])

abbrev pub setups : Drawn ℕ
setups = in_turn (fixed table_line ∷ for_each 0 32 partition_line ∷ rows_line ∷ [])

-- ---- the sessions w1 to w8, with 64 steps each

abbrev pub select : Drawn ℕ
select = drawn_between (codes "SELECT * FROM g WHERE k = ") 320 (codes ";")

abbrev pub insert : Drawn ℕ
insert = in_turn (fixed (codes "INSERT INTO g VALUES ") ∷ row ∷ fixed (codes ";") ∷ [])

abbrev pub raise : Drawn ℕ
raise = drawn_between (codes "UPDATE g SET v = v + 1 WHERE k < ") 320 (codes ";")

abbrev pub move : Drawn ℕ
move = in_turn (fixed (codes "UPDATE g SET k = ") ∷ drawn 320 ∷ drawn_between (codes " WHERE k = ") 320 (codes ";") ∷ [])

abbrev pub delete : Drawn ℕ
delete = drawn_between (codes "DELETE FROM g WHERE k = ") 320 (codes ";")

abbrev pub detach : Drawn ℕ
detach = drawn_between (codes "ALTER TABLE g DETACH PARTITION g") 32 (codes " CONCURRENTLY;")

abbrev pub attached : ℕ → Drawn ℕ
attached i = fixed (codes "ALTER TABLE g ATTACH PARTITION g" ++ decimal i ++ codes " FOR VALUES " ++ bound i ++ codes ";")

abbrev pub attach : Drawn ℕ
attach = with_draw 32 attached

abbrev pub statements : List (Drawn ℕ)
statements = fixed (codes "BEGIN;") ∷ fixed (codes "COMMIT;") ∷ select ∷ select ∷ insert ∷ raise ∷ move ∷ delete ∷ detach ∷ []

-- one of ten, of which the last attaches a partition
abbrev pub statement_of : ℕ → Drawn ℕ
statement_of c = slice_index_or statements c attach

abbrev pub statement : Drawn ℕ
statement = with_draw 10 statement_of

abbrev pub step_line : ℕ → ℕ → Drawn ℕ
step_line i j =
    in_turn (fixed (codes "step w" ++ decimal i ++ codes "_" ++ decimal j ++ codes " { ") ∷ statement ∷ fixed (codes " }\n") ∷ [])

abbrev pub session_lines : ℕ → Drawn ℕ
session_lines i = in_turn (fixed (codes "session w" ++ decimal i ++ codes "\n") ∷ for_each 1 64 (step_line i) ∷ [])

abbrev pub sessions : Drawn ℕ
sessions = for_each 1 8 session_lines

-- ---- the permutation, in which each of the 512 steps is used once

-- the sessions from one on, cyclically; w1 has the place 0
abbrev pub sessions_from : ℕ → List ℕ
sessions_from c = map (λ k. (c + k) % 8) (range_with_len 0 8)

-- the first of them that has a step left, where so many are used of each
abbrev pub session_with_step : ℕ → List ℕ → Option ℕ
session_with_step c given = find (λ i. nat_lt (slice_index given i) 64) (sessions_from c)

-- the next step of the session, if there is one
abbrev pub used_of : Option ℕ → List ℕ → List ℕ × List ℕ
used_of None given = ([], given)
used_of (Some i) given =
    let n = slice_index given i + 1 in
    (codes " w" ++ decimal (i + 1) ++ codes "_" ++ decimal n, slice_set given i n)

abbrev pub one_use : Drawn (ℕ × List ℕ)
one_use p =
    let next = used_of (session_with_step (draw 8 p.0) p.1) p.1 in
    (next.0, (next_state p.0, next.1))

abbrev pub permutation_line : Drawn ℕ
permutation_line s =
    let uses = repeated 512 one_use (s, replicate 8 0) in
    (codes "permutation" ++ uses.0 ++ codes "\n", uses.1.0)

-- ---- all of it

abbrev pub load : ℕ → List ℕ
load seed = (in_turn (setups ∷ sessions ∷ permutation_line ∷ []) seed).0
