-- Document 01, "Books to try": M1 to M10 as one table, with the full clause lists, the totals, the answers and the counts. The books are written
-- as 01 writes them and laid out as bytes by "The rulebook"; the table is proved by computation over the definitions. Assumes nothing.
use Rattle.std.specs.Prelude.{ℕ, pred, ◌+◌, ◌*◌, ◌/◌, ◌%◌, ◌≡◌, refl, List, [], ◌∷◌, ◌++◌, map, ℤ, pos, neg_ℤ, length}
use Rattle.logic.specs.Table.{Node, atom, neg, and, or, imp, box, dia, children, within, at}
use Rattle.book.specs.Rulebook.{Book, book, accepted, refused, number16, number32, header, between, ranges, extent, if_kept, rows, node_of, node_at, before, nodes_from}
use Rattle.signed.specs.Signed.{stripped, signed, class, classed}
use Rattle.clauses.specs.Clause.{Clause, literal, one, two, three}
use Rattle.encoding.specs.Build.{same_key, same, place, insert, ask, asked, write, make, start, scan, rounds, rule1, rule2, push, rule3, role, by, phase1, phase2, phase3, expand, build, built}
use Rattle.encoding.specs.Limits.{oversized}
use Rattle.search.specs.Search.{turned, value, mark, same_literal, met, all_met, unassigned, all_same, forced, says, zeros, lowest, settle_in, settle, node, run, nodes, finishes}
use Rattle.search.specs.Search as search
use Rattle.meaning.specs.Answers.{Answer, searched, verdict, judged, answered, answer_to, answer}

-- a number in two bytes, low one first; a node record
abbrev pub bytes2 : ℕ → List ℕ
bytes2 n = n % 256 ∷ n / 256 ∷ []

abbrev pub entry : ℕ → ℕ → ℕ → ℕ → List ℕ
entry kind a b r = bytes2 kind ++ bytes2 a ++ bytes2 b ++ bytes2 r

unfoldable pub record8 : Node → List ℕ
record8 (atom a) = entry 1 a 0 0
record8 (neg c) = entry 2 c 0 0
record8 (and c d) = entry 3 c d 0
record8 (or c d) = entry 4 c d 0
record8 (imp c d) = entry 5 c d 0
record8 (box r c) = entry 6 c 0 r
record8 (dia r c) = entry 7 c 0 r

unfoldable pub records : List Node → List ℕ
records [] = []
records (n ∷ ns) = record8 n ++ records ns

-- R relations, P atoms, and the nodes, "the last being the root"; no note
unfoldable pub bytes : ℕ → ℕ → List Node → List ℕ
bytes R P ns =
    let N = length ns in
    bytes2 R ++ bytes2 P ++ bytes2 N ++ bytes2 (pred N) ++ bytes2 16 ++ bytes2 0 ++ bytes2 (16 + 8 * N) ++ bytes2 0 ++ records ns

-- a book and the budgets to try it with
pub record Try : Type 0 where
  pub relations : ℕ
  pub nodes : List Node
  pub budgets : List ℕ

-- what comes of it: the clauses and an answer for each budget
pub record Row : Type 0 where
  pub clauses : List Clause
  pub answers : List Answer

unfoldable pub clauses_of : Book → List Clause
clauses_of (accepted h ns) = (built ns h.root).clauses
clauses_of (refused n p) = []

unfoldable pub row : Try → Row
row t =
    let bs = bytes t.relations 2 t.nodes in
    record { clauses = clauses_of (book bs); answers = map (answer bs) t.budgets }

abbrev pub plain : List Node → Try
plain ns = record { relations = 1; nodes = ns; budgets = 1000000 ∷ [] }

-- p is atom 0, q atom 1; relation 0 unless marked
unfoldable pub books : List Try
books =
    plain (atom 0 ∷ neg 0 ∷ [])
    ∷ plain (atom 0 ∷ neg 0 ∷ dia 0 0 ∷ box 0 1 ∷ and 2 3 ∷ [])
    ∷ plain (atom 0 ∷ neg 0 ∷ dia 0 0 ∷ dia 0 1 ∷ and 2 3 ∷ [])
    ∷ record { relations = 1; nodes = atom 0 ∷ atom 1 ∷ or 0 1 ∷ []; budgets = 0 ∷ 1 ∷ 2 ∷ [] }
    ∷ plain (atom 0 ∷ or 0 0 ∷ [])
    ∷ plain (atom 0 ∷ imp 0 0 ∷ [])
    ∷ plain (atom 0 ∷ neg 0 ∷ and 0 1 ∷ box 0 2 ∷ [])
    ∷ plain (atom 0 ∷ neg 0 ∷ and 0 1 ∷ dia 0 2 ∷ [])
    ∷ record { relations = 2; nodes = atom 0 ∷ neg 0 ∷ dia 0 0 ∷ box 1 1 ∷ and 2 3 ∷ []; budgets = 1000000 ∷ [] }
    ∷ plain (atom 0 ∷ dia 0 0 ∷ dia 0 0 ∷ or 1 2 ∷ [])
    ∷ []

-- a literal, plus or minus
abbrev pub p : ℕ → ℤ
p v = pos v

abbrev pub m : ℕ → ℤ
m v = neg_ℤ (pos v)

-- a clause list with its answers: number, states, variables, clauses and count
abbrev pub gives : ℕ → ℕ → ℕ → ℕ → ℕ → Answer
gives number states variables clauses count = record { number = number; place = 0; states = states; variables = variables; clauses = clauses; count = count }

abbrev pub is : List Clause → List Answer → Row
is cs answers = record { clauses = cs; answers = answers }

unfoldable pub rows_to_be : List Row
rows_to_be =
    is (one (m 1) ∷ []) (gives 1 1 1 1 1 ∷ [])
    ∷ is (one (p 1) ∷ two (m 1) (p 2) ∷ two (m 1) (p 3) ∷ two (m 2) (p 4) ∷ three (m 3) (m 2) (m 4) ∷ []) (gives 2 2 4 5 1 ∷ [])
    ∷ is (one (p 1) ∷ two (m 1) (p 2) ∷ two (m 1) (p 3) ∷ two (m 2) (p 4) ∷ two (m 3) (m 5) ∷ []) (gives 1 3 5 5 1 ∷ [])
    ∷ is (one (p 1) ∷ three (m 1) (p 2) (p 3) ∷ []) (gives 3 1 3 2 0 ∷ gives 3 1 3 2 1 ∷ gives 1 1 3 2 2 ∷ [])
    ∷ is (one (p 1) ∷ three (m 1) (p 2) (p 2) ∷ []) (gives 1 1 2 2 1 ∷ [])
    ∷ is (one (p 1) ∷ three (m 1) (m 2) (p 2) ∷ []) (gives 1 1 2 2 2 ∷ [])
    ∷ is (one (p 1) ∷ []) (gives 1 1 1 1 1 ∷ [])
    ∷ is (one (p 1) ∷ two (m 1) (p 2) ∷ two (m 2) (p 3) ∷ two (m 2) (m 3) ∷ []) (gives 2 2 3 4 1 ∷ [])
    ∷ is (one (p 1) ∷ two (m 1) (p 2) ∷ two (m 1) (p 3) ∷ two (m 2) (p 4) ∷ []) (gives 1 2 4 4 1 ∷ [])
    ∷ is (one (p 1) ∷ three (m 1) (p 2) (p 3) ∷ two (m 2) (p 4) ∷ two (m 3) (p 5) ∷ []) (gives 1 3 5 4 3 ∷ [])
    ∷ []

-- M1 to M10
pub table : map row books ≡ rows_to_be
unfolding row books rows_to_be bytes records record8 clauses_of children within at book number16 number32 header between ranges extent if_kept rows node_of node_at before nodes_from stripped signed class classed literal same_key same place insert ask asked write make start scan rounds rule1 rule2 push rule3 role by phase1 phase2 phase3 expand build built oversized turned value mark search.place same_literal met all_met unassigned all_same forced says search.scan zeros lowest settle_in settle node run nodes finishes searched verdict judged answered answer_to answer
table = refl
