-- Private: the clauses of each family and size. Only the contracts of this program's own functions cite it.
use Rattle.std.specs.Prelude.{ℕ, ◌+◌, ◌-◌, ◌*◌, ◌/◌, ◌%◌, ◌^◌, zero, suc, List, Bool, [], ◌∷◌, ◌++◌, true, false, map, min, max, nat_lt, nat_eq, if◌then◌else◌}
use Rattle.std.specs.List.{flat_map, range_with_len}
use Rattle.clause_store.specs.declared.Lit.{Lit}
use Rattle.clause_store.specs.Clauses.{Formula}

-- that a pigeon sits in a hole, or doesn't; both are counted from 0
abbrev pub sits : ℕ → ℕ → ℕ → Bool → Lit
sits holes pigeon hole positive = record { var = pigeon * holes + hole + 1; positive = positive }

-- the pigeon sits in one of the holes
abbrev pub some_hole : ℕ → ℕ → List (List Lit)
some_hole holes pigeon = map (λ hole. sits holes pigeon hole true) (range_with_len 0 holes) ∷ []

-- two pigeons aren't both in the hole; nor is a pigeon with any before it, nor any with another
abbrev pub apart : ℕ → ℕ → ℕ → ℕ → List (List Lit)
apart holes hole second first = (sits holes first hole false ∷ sits holes second hole false ∷ []) ∷ []

abbrev pub apart_from : ℕ → ℕ → ℕ → List (List Lit)
apart_from holes hole second = flat_map (apart holes hole second) (range_with_len 0 second)

abbrev pub all_apart : ℕ → ℕ → List (List Lit)
all_apart holes hole = flat_map (apart_from holes hole) (range_with_len 0 (holes + 1))

-- one pigeon more than there are holes: each sits in a hole, and no two in one
abbrev pub pigeon_formula : ℕ → Formula
pigeon_formula holes = record {
  vars = holes * (holes + 1);
  clauses = flat_map (some_hole holes) (range_with_len 0 (holes + 1)) ++ flat_map (all_apart holes) (range_with_len 0 holes);
}

-- event a stands before event b, both counted from 0; each two have one variable
abbrev pub stands_before : ℕ → ℕ → Lit
stands_before a b = record { var = max a b * (max a b - 1) / 2 + min a b + 1; positive = nat_lt a b }

-- three events are in no cycle, in neither direction; nor are any two below c with it, where b is one of them
abbrev pub no_cycle : ℕ → ℕ → ℕ → List (List Lit)
no_cycle c b a =
    (stands_before b a ∷ stands_before c b ∷ stands_before a c ∷ [])
    ∷ (stands_before a b ∷ stands_before b c ∷ stands_before c a ∷ []) ∷ []

abbrev pub no_cycle_with : ℕ → ℕ → List (List Lit)
no_cycle_with c b = flat_map (no_cycle c b) (range_with_len 0 b)

abbrev pub no_cycle_below : ℕ → List (List Lit)
no_cycle_below c = flat_map (no_cycle_with c) (range_with_len 0 c)

-- a place in a circle of so many, counted from 0, for one that may be past its end
abbrev pub around : ℕ → ℕ → ℕ
around size place = if nat_lt place size then place else place - size

-- the event stands before the next one in the circle, or before the next but one
abbrev pub is_ahead : ℕ → ℕ → List (List Lit)
is_ahead size event = (stands_before event (around size (event + 1)) ∷ stands_before event (around size (event + 2)) ∷ []) ∷ []

-- events in an order of which none is the last
abbrev pub circle_formula : ℕ → Formula
circle_formula size = record {
  vars = size * (size - 1) / 2;
  clauses = flat_map no_cycle_below (range_with_len 0 size) ++ flat_map (is_ahead size) (range_with_len 0 size);
}

-- the numbers of a linear congruential generator, each from the one before
abbrev pub next_number : ℕ → ℕ
next_number s = (s * 6364136223846793005 % 2 ^ 64 + 1442695040888963407) % 2 ^ 64

-- what a number draws from 1 to `most`, by its upper half
abbrev pub drawn : ℕ → ℕ → ℕ
drawn s most = s / 2 ^ 33 % most + 1

-- the literal that the two numbers behind this one draw: its variable and its sign
abbrev pub drawn_lit : ℕ → ℕ → Lit
drawn_lit size s = record { var = drawn (next_number s) size; positive = nat_eq (drawn (next_number (next_number s)) 2) 1 }

-- the number that is drawn last for a literal
abbrev pub behind_lit : ℕ → ℕ
behind_lit s = next_number (next_number s)

-- the clause of the three literals that are drawn behind a number
abbrev pub drawn_clause : ℕ → ℕ → List (List Lit)
drawn_clause size s = (drawn_lit size s ∷ drawn_lit size (behind_lit s) ∷ drawn_lit size (behind_lit (behind_lit s)) ∷ []) ∷ []

-- the number behind which clause k is drawn
unfoldable pub number_before : ℕ → ℕ → ℕ
number_before seed zero = seed
number_before seed (suc k) = behind_lit (behind_lit (behind_lit (number_before seed k)))

-- clauses of three literals, 4.26 for each variable, drawn from the number of variables on
abbrev pub drawn_formula : ℕ → Formula
drawn_formula size = record {
  vars = size;
  clauses = flat_map (λ k. drawn_clause size (number_before size k)) (range_with_len 0 (size * 426 / 100));
}
