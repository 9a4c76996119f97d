-- 02, order 8: "the number of unmet clauses", which stands beside the assignment, and by how much it falls where a literal is made true. Assumes nothing.
use Rattle.std.specs.Prelude.{◌≡◌, Bool, false, not, ◌&&◌, ◌||◌, cond, List, [], ◌∷◌, ℕ, suc, ℤ}
use Rattle.clauses.specs.Clause.{Clause, triples}
use Rattle.search.specs.Search.{same_literal, met}

-- how many clauses have a property
unfoldable pub number : (Clause → Bool) → List Clause → ℕ
number f [] = 0
number f (c ∷ cs) = cond (f c) (suc (number f cs)) (number f cs)

-- a clause has no true literal; it holds a literal
abbrev pub unmet : List ℕ → Clause → Bool
unmet a c = not (met a c)

unfoldable pub holds : ℤ → Clause → Bool
holds l [] = false
holds l (k ∷ c) = same_literal l k || holds l c

-- "the number of unmet clauses"
abbrev pub unmet_among : List ℕ → List Clause → ℕ
unmet_among a cs = number (unmet a) cs

-- and how many of them hold a literal
abbrev pub unmet_with : List ℕ → ℤ → List Clause → ℕ
unmet_with a l cs = number (λ c. holds l c && unmet a c) cs

-- u is the number under the marks a
abbrev pub Counts : List ℤ → List ℕ → ℕ → Type 0
Counts cl a u = u ≡ unmet_among a (triples cl)
