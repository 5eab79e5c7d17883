-- The numbers of syncs at the front of bytes.
use Rattle.std.proofs.Common.{◌≡◌, ◌⊎◌, ℕ, zero, suc, ◌+◌, ◌-◌, ◌<◌, ◌≤◌, inl, inr, List, [], ◌∷◌, ◌++◌, length, get_or, refl, sym, ◌∙◌, ap, subst, arith}
use Rattle.std.specs.Prelude.{decimal}
use Rattle.std.specs.List.{All}
use Rattle.std.specs.List.Sorted.{IsStrictlyIncreasing}
use Rattle.std.proofs.lemmas.List.{append_assoc, append-nil, length-append}
use Rattle.std.proofs.lemmas.List.Concat.{flat_map-cons}
use Rattle.std.proofs.lemmas.List.Elements.{All-nil, All-cons, All-append, All-head}
use Rattle.numerals.specs.Numbers.{numbers_text}
use Rattle.proof_log.specs.Stages.{AreSites}
use Rattle.proof_log.specs.Tokens.{BeginsNumber}
use Rattle.proof_log.specs.Reading.{AreSitesSoFar}
use Rattle.proof_log.proofs.Fronts.{All-right}
use Rattle.proof_log.proofs.OneWay.{one_first, numbers_end}
use Rattle.proof_log.proofs.Running.{narrow}

no_space : (xs : List ℕ) → [] ≡ 32 ∷ xs → ⊥
no_space xs e = absurd cc

pub none_so_far : (bytes : List ℕ) → AreSitesSoFar bytes [] 0 bytes
none_so_far bytes = record {
  are = (λ k below. absurd (omega (arith, below)), All-nil (λ n. (1 ≤ n) × (n ≤ 4294967295)));
  greatest = refl;
  spelled = refl;
  ahead = λ all small e. (all, refl, e);
}

last_get : (xs : List ℕ) (n d : ℕ) → get_or (xs ++ n ∷ []) (length xs) d ≡ n
last_get [] n d = refl
last_get (x ∷ xs) n d = last_get xs n d

early_get : (xs : List ℕ) (n k d : ℕ) → k < length xs → get_or (xs ++ n ∷ []) k d ≡ get_or xs k d
early_get [] n k d below = absurd (omega (arith, below))
early_get (x ∷ xs) n zero d below = refl
early_get (x ∷ xs) n (suc k) d below = early_get xs n k d (omega (arith, below))

increasing_more : (xs : List ℕ) (n : ℕ) → IsStrictlyIncreasing xs → (0 < length xs → get_or xs (length xs - 1) 0 < n) → IsStrictlyIncreasing (xs ++ n ∷ [])
increasing_more xs n is above = λ k below. elim (place k below) [
  | inl early ↦ let a = early_get xs n k 0 (omega (arith, early)) in let b = early_get xs n (k + 1) 0 early in omega (arith, a, b, is k early)
  | inr last ↦
      let a = early_get xs n k 0 (omega (arith, last)) in
      let b : get_or (xs ++ n ∷ []) (k + 1) 0 ≡ n = ap (λ (i : ℕ). get_or (xs ++ n ∷ []) i 0) last ∙ last_get xs n 0 in
      let at : length xs - 1 ≡ k = omega (arith, last) in
      let c : get_or xs (length xs - 1) 0 ≡ get_or xs k 0 = ap (λ (i : ℕ). get_or xs i 0) at in
      omega (arith, a, b, c, above (omega (arith, last)))
]
  where
    place : (k : ℕ) → k + 1 < length (xs ++ n ∷ []) → (k + 1 < length xs) ⊎ (k + 1 ≡ length xs)
    place k below = let long = length-append xs (n ∷ []) in decide (k + 1) (length xs) (omega (arith, below, long))
      where
        decide : (a b : ℕ) → a ≤ b → (a < b) ⊎ (a ≡ b)
        decide zero zero le = inr refl
        decide zero (suc b) le = inl (omega arith)
        decide (suc a) zero le = absurd (omega (arith, le))
        decide (suc a) (suc b) le = elim (decide a b (omega (arith, le))) [
          | inl less ↦ inl (omega (arith, less))
          | inr same ↦ inr (ap (λ (k : ℕ). suc k) same)
        ]

numbers_more : (xs : List ℕ) (n : ℕ) (rest : List ℕ) → numbers_text (xs ++ n ∷ []) ++ rest ≡ numbers_text xs ++ 32 ∷ decimal n ++ rest
numbers_more [] n rest = ap (λ (l : List ℕ). l ++ rest) (flat_map-cons (λ k. 32 ∷ decimal k) n [] ∙ append-nil (32 ∷ decimal n))
numbers_more (x ∷ xs) n rest =
    ap (λ (l : List ℕ). l ++ rest) (flat_map-cons (λ k. 32 ∷ decimal k) x (xs ++ n ∷ []))
    ∙ append_assoc (32 ∷ decimal x) (numbers_text (xs ++ n ∷ [])) rest
    ∙ ap (λ (l : List ℕ). (32 ∷ decimal x) ++ l) (numbers_more xs n rest)
    ∙ ap (λ (l : List ℕ). (32 ∷ decimal x) ++ l) (append_assoc (numbers_text xs) (32 ∷ decimal n) rest)
    ∙ sym (append_assoc (32 ∷ decimal x) (numbers_text xs) (32 ∷ decimal n ++ rest))
    ∙ ap (λ (l : List ℕ). l ++ (32 ∷ decimal n ++ rest)) (sym (flat_map-cons (λ k. 32 ∷ decimal k) x xs))
    ∙ sym (append_assoc (numbers_text (x ∷ xs)) (32 ∷ decimal n) rest)

-- the next number is the first of those that are still to come
next_of : (rest : List ℕ) (n : ℕ) (behind more : List ℕ) → All (λ k. k ≤ 4294967295) more → BeginsNumber rest n behind → rest ≡ numbers_text more
    → (others : List ℕ) × (more ≡ n ∷ others) × (behind ≡ numbers_text others)
next_of rest n behind [] small begins e = absurd (no_space (decimal n ++ behind) (sym e ∙ begins.spelled))
next_of rest n behind (m ∷ ms) small begins e =
    let both = one_first m ms n behind (All-head (λ k. k ≤ 4294967295) m ms small) begins.narrow begins.ends (sym e ∙ begins.spelled) in
    (ms, ap (λ (k : ℕ). k ∷ ms) both.0, sym both.1)

small_more : (all sites more : List ℕ) → All (λ k. k ≤ 4294967295) all → all ≡ sites ++ more → All (λ k. k ≤ 4294967295) more
small_more all sites more small e = All-right (λ k. k ≤ 4294967295) sites more (subst (All (λ k. k ≤ 4294967295)) e small)

-- one number more
pub more_so_far : (bytes sites : List ℕ) (last : ℕ) (rest : List ℕ) (n : ℕ) (behind : List ℕ) → AreSitesSoFar bytes sites last rest → BeginsNumber rest n behind → last < n
    → AreSitesSoFar bytes (sites ++ n ∷ []) n behind
more_so_far bytes sites last rest n behind so_far begins above = record {
  are = (
    increasing_more sites n so_far.are.0 (λ some. omega (arith, so_far.greatest, above)),
    All-append (λ k. (1 ≤ k) × (k ≤ 4294967295)) sites (n ∷ []) so_far.are.1
        (All-cons (λ k. (1 ≤ k) × (k ≤ 4294967295)) n [] (omega (arith, above), begins.narrow) (All-nil (λ k. (1 ≤ k) × (k ≤ 4294967295)))),
  );
  greatest =
      let long : length (sites ++ n ∷ []) - 1 ≡ length sites = omega (arith, length-append sites (n ∷ [])) in
      sym (ap (λ (i : ℕ). get_or (sites ++ n ∷ []) i 0) long ∙ last_get sites n 0);
  spelled = so_far.spelled ∙ ap (λ (l : List ℕ). numbers_text sites ++ l) begins.spelled ∙ sym (append_assoc (numbers_text sites) (32 ∷ decimal n) behind) ∙ sym (numbers_more sites n behind);
  ahead = λ all small e.
      let there = so_far.ahead all small e in
      let next = next_of rest n behind there.0 (small_more all sites there.0 small there.1) begins there.2 in
      (next.0, there.1 ∙ ap (λ (l : List ℕ). sites ++ l) next.1 ∙ sym (append_assoc sites (n ∷ []) next.0), next.2);
}

falls_not : (sites : List ℕ) (last n : ℕ) (others : List ℕ) → AreSites (sites ++ n ∷ others) → last ≡ get_or sites (length sites - 1) 0 → n ≤ last → ⊥
falls_not [] last n others are greatest low = omega (arith, greatest, low, (All-head (λ k. (1 ≤ k) × (k ≤ 4294967295)) n others are.1).0)
falls_not (x ∷ xs) last n others are greatest low =
    let step = are.0 (length xs) (omega (arith, length-append (x ∷ xs) (n ∷ others))) in
    let at = seam xs x n others in
    let before = inside xs x n others in
    let last_is : length (x ∷ xs) - 1 ≡ length xs = omega arith in
    let same : get_or (x ∷ xs) (length (x ∷ xs) - 1) 0 ≡ get_or (x ∷ xs) (length xs) 0 = ap (λ (i : ℕ). get_or (x ∷ xs) i 0) last_is in
    omega (arith, step, at, before, same, greatest, low)
  where
    seam : (xs : List ℕ) (x n : ℕ) (others : List ℕ) → get_or ((x ∷ xs) ++ n ∷ others) (length xs + 1) 0 ≡ n
    seam [] x n others = refl
    seam (y ∷ ys) x n others = let on : length (y ∷ ys) + 1 ≡ suc (length ys + 1) = omega arith in ap (λ (i : ℕ). get_or ((x ∷ y ∷ ys) ++ n ∷ others) i 0) on ∙ seam ys y n others

    inside : (xs : List ℕ) (x n : ℕ) (others : List ℕ) → get_or ((x ∷ xs) ++ n ∷ others) (length xs) 0 ≡ get_or (x ∷ xs) (length xs) 0
    inside [] x n others = refl
    inside (y ∷ ys) x n others = inside ys y n others

-- a number that isn't above the last can't follow
pub no_fall : (bytes sites : List ℕ) (last : ℕ) (rest : List ℕ) (n : ℕ) (behind : List ℕ) → AreSitesSoFar bytes sites last rest → BeginsNumber rest n behind → n ≤ last
    → (all : List ℕ) → AreSites all → bytes ≡ numbers_text all → ⊥
no_fall bytes sites last rest n behind so_far begins low all are e =
    let small = narrow all are in
    let there = so_far.ahead all small e in
    let next = next_of rest n behind there.0 (small_more all sites there.0 small there.1) begins there.2 in
    falls_not sites last n next.0 (subst AreSites (there.1 ∙ ap (λ (l : List ℕ). sites ++ l) next.1) are) so_far.greatest low

rest_begins : (rest more : List ℕ) → All (λ k. k ≤ 4294967295) more → rest ≡ numbers_text more → 0 < length rest → (n : ℕ) × (r : List ℕ) × BeginsNumber rest n r
rest_begins rest [] small e some = absurd (omega (arith, some, ap (λ (l : List ℕ). length l) e))
rest_begins rest (m ∷ ms) small e some = (m, numbers_text ms, record { spelled = e ∙ flat_map-cons (λ k. 32 ∷ decimal k) m ms; narrow = All-head (λ k. k ≤ 4294967295) m ms small; ends = numbers_end ms })

-- no number stands before what is left
pub no_rest : (bytes sites : List ℕ) (last : ℕ) (rest : List ℕ) → AreSitesSoFar bytes sites last rest → ((n : ℕ) (r : List ℕ) → BeginsNumber rest n r → ⊥) → 0 < length rest
    → (all : List ℕ) → AreSites all → bytes ≡ numbers_text all → ⊥
no_rest bytes sites last rest so_far none some all are e =
    let small = narrow all are in
    let there = so_far.ahead all small e in
    let begins = rest_begins rest there.0 (small_more all sites there.0 small there.1) there.2 some in
    none begins.0 begins.1 begins.2

pub are_sites : (bytes sites : List ℕ) (last : ℕ) (rest : List ℕ) → AreSitesSoFar bytes sites last rest → length rest ≡ 0 → AreSites sites × (bytes ≡ numbers_text sites)
are_sites bytes sites last rest so_far none = (so_far.are, so_far.spelled ∙ ap (λ (l : List ℕ). numbers_text sites ++ l) (nothing rest none) ∙ append-nil (numbers_text sites))
  where
    nothing : (xs : List ℕ) → length xs ≡ 0 → xs ≡ []
    nothing [] e = refl
    nothing (x ∷ xs) e = absurd (omega (arith, e))
