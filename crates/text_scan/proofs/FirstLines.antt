-- The first line of a file, and how many lines it has.
use Rattle.std.proofs.Common.{◌≡◌, ◌≢◌, inl, inr, ℕ, zero, suc, ◌+◌, ◌-◌, ◌<◌, ◌≤◌, Bool, cond, true, false, ◌&&◌, nat_lt, List, [], ◌∷◌, length, take, drop, get_or, eqb, refl, sym, ◌∙◌, ap, ap₂, arith}
use Rattle.std.proofs.Math.Seq.{take-length, drop-length}
use Rattle.std.specs.List.{onto_first}
use Rattle.std.proofs.lemmas.Bool.{ne_eqb, lt-ltb}
use Rattle.std.proofs.lemmas.Bool.Decides.{eqb_tells}
use Rattle.text_scan.specs.Lines.{feed_is_first, lines_of}

-- a byte that ends no line
other_byte : (b : ℕ) (bs : List ℕ) → b ≢ 10 → eqb b 13 && feed_is_first bs ≡ false → lines_of (b ∷ bs) ≡ onto_first b (lines_of bs)
other_byte b bs feed return =
    ap (λ t. cond t ([] ∷ lines_of bs) (cond (eqb b 13 && feed_is_first bs) (lines_of bs) (onto_first b (lines_of bs)))) (ne_eqb b 10 feed)
    ∙ ap (λ t. cond t (lines_of bs) (onto_first b (lines_of bs))) return

no_return : (b : ℕ) (bs : List ℕ) → b ≢ 13 → eqb b 13 && feed_is_first bs ≡ false
no_return b bs e = ap (λ t. t && feed_is_first bs) (ne_eqb b 13 e)

and_false : (t : Bool) → t && false ≡ false
and_false true = refl
and_false false = refl

-- a return that isn't directly before a line feed is a byte like others
no_feed : (b c : ℕ) (cs : List ℕ) → c ≢ 10 → eqb b 13 && feed_is_first (c ∷ cs) ≡ false
no_feed b c cs e = ap (λ t. eqb b 13 && t) (ne_eqb c 10 e) ∙ and_false (eqb b 13)

behind_one : (n : ℕ) (b : ℕ) (bs : List ℕ) → drop (suc n + 1) (b ∷ bs) ≡ drop (n + 1) bs
behind_one n b bs = let same : suc n + 1 ≡ suc (n + 1) = omega arith in ap (λ (k : ℕ). drop k (b ∷ bs)) same

-- the first line ends at a line feed, and no return stands before that
pub ended : (bs : List ℕ) (i : ℕ) → i < length bs → ((k : ℕ) → k < i → get_or bs k 0 ≢ 10) → get_or bs i 0 ≡ 10
    → ((j : ℕ) → suc j ≡ i → get_or bs j 0 ≢ 13) → lines_of bs ≡ take i bs ∷ lines_of (drop (i + 1) bs)
ended [] i below before at return = absurd (omega arith)
ended (b ∷ bs) zero below before at return = ap (λ (x : ℕ). lines_of (x ∷ bs)) at
ended (b ∷ []) (suc i) below before at return = absurd (omega arith)
ended (b ∷ c ∷ cs) (suc zero) below before at return =
    other_byte b (c ∷ cs) (before 0 (omega arith)) (no_return b (c ∷ cs) (return 0 refl))
    ∙ ap (λ (x : ℕ). onto_first b (lines_of (x ∷ cs))) at
ended (b ∷ c ∷ cs) (suc (suc i)) below before at return =
    other_byte b (c ∷ cs) (before 0 (omega arith)) (no_feed b c cs (before 1 (omega arith)))
    ∙ ap (onto_first b) (ended (c ∷ cs) (suc i) (omega arith) (λ k h. before (suc k) (omega arith)) at (λ j e. return (suc j) (ap suc e)))
    ∙ ap (λ (x : List ℕ). (b ∷ take (suc i) (c ∷ cs)) ∷ lines_of x) (sym (behind_one (suc i) b (c ∷ cs)))

-- the first line ends at a return and a line feed
pub returned : (bs : List ℕ) (i : ℕ) → suc i < length bs → ((k : ℕ) → k < suc i → get_or bs k 0 ≢ 10) → get_or bs i 0 ≡ 13
    → get_or bs (suc i) 0 ≡ 10 → lines_of bs ≡ take i bs ∷ lines_of (drop (suc i + 1) bs)
returned [] i below before return at = absurd (omega arith)
returned (b ∷ []) i below before return at = absurd (omega arith)
returned (b ∷ c ∷ cs) zero below before return at =
    ap (λ (x : ℕ). lines_of (x ∷ c ∷ cs)) return ∙ ap (λ (x : ℕ). lines_of (13 ∷ x ∷ cs)) at
returned (b ∷ c ∷ cs) (suc i) below before return at =
    other_byte b (c ∷ cs) (before 0 (omega arith)) (no_feed b c cs (before 1 (omega arith)))
    ∙ ap (onto_first b) (returned (c ∷ cs) i (omega arith) (λ k h. before (suc k) (omega arith)) return at)
    ∙ ap (λ (x : List ℕ). (b ∷ take i (c ∷ cs)) ∷ lines_of x) (sym (behind_one (suc i) b (c ∷ cs)))

-- the last line has no line feed
pub last_line : (b : ℕ) (bs : List ℕ) → ((k : ℕ) → k < length (b ∷ bs) → get_or (b ∷ bs) k 0 ≢ 10) → lines_of (b ∷ bs) ≡ (b ∷ bs) ∷ []
last_line b [] none = other_byte b [] (none 0 (omega arith)) (and_false (eqb b 13))
last_line b (c ∷ cs) none =
    other_byte b (c ∷ cs) (none 0 (omega arith)) (no_feed b c cs (none 1 (omega arith)))
    ∙ ap (onto_first b) (last_line c cs (λ k h. none (suc k) (omega arith)))

-- the line feed at i is the first one: the first line, without the return that may stand before the feed
pub first_ended : (bs : List ℕ) (i text : ℕ) → i < length bs → ((k : ℕ) → k < i → get_or bs k 0 ≢ 10) → get_or bs i 0 ≡ 10
    → text ≡ cond (nat_lt 0 i && eqb (get_or bs (i - 1) 0) 13) (i - 1) i → lines_of bs ≡ take text bs ∷ lines_of (drop (i + 1) bs)
first_ended bs zero text below before at is =
    ended bs zero below before at (λ j e. absurd (omega arith)) ∙ ap (λ (n : ℕ). take n bs ∷ lines_of (drop 1 bs)) (sym is)
first_ended bs (suc i) text below before at is =
    let one : suc i - 1 ≡ i = omega arith in
    let above : 0 < suc i = omega arith in
    let some : nat_lt 0 (suc i) ≡ true = lt-ltb 0 (suc i) above in
    let is' : text ≡ cond (eqb (get_or bs i 0) 13) i (suc i) =
    is ∙ ap (λ t. cond (t && eqb (get_or bs (suc i - 1) 0) 13) (suc i - 1) (suc i)) some ∙ ap (λ (n : ℕ). cond (eqb (get_or bs n 0) 13) n (suc i)) one in
    elim (eqb_tells (get_or bs i 0) 13) [
      | inl (yes', return) ↦
          let at' : text ≡ i = is' ∙ ap (λ t. cond t i (suc i)) yes' in
          returned bs i below before return at ∙ ap (λ (n : ℕ). take n bs ∷ lines_of (drop (suc i + 1) bs)) (sym at')
      | inr (no', other) ↦
          let at' : text ≡ suc i = is' ∙ ap (λ t. cond t i (suc i)) no' in
          ended bs (suc i) below before at (λ j e. let same : j ≡ i = omega arith in λ h. other (ap (λ (k : ℕ). get_or bs k 0) (sym same) ∙ h))
          ∙ ap (λ (n : ℕ). take n bs ∷ lines_of (drop (suc i + 1) bs)) (sym at')
    ]

pub first_last : (bs : List ℕ) → 0 < length bs → ((k : ℕ) → k < length bs → get_or bs k 0 ≢ 10) → lines_of bs ≡ take (length bs) bs ∷ lines_of (drop (length bs) bs)
first_last [] some none = absurd (omega arith)
first_last (b ∷ bs) some none = last_line b bs none ∙ ap₂ (λ (x : List ℕ) (y : List ℕ). x ∷ lines_of y) (sym (take-length (b ∷ bs))) (sym (drop-length (b ∷ bs)))

-- the first line and the bytes behind it are such pieces
pub cut_at : (bs line behind : List ℕ) (text whole : ℕ) → lines_of bs ≡ take text bs ∷ lines_of (drop whole bs) → line ≡ take text bs → behind ≡ drop whole bs
    → lines_of bs ≡ line ∷ lines_of behind
cut_at bs line behind text whole cut front back = cut ∙ ap₂ (λ (x y : List ℕ). x ∷ lines_of y) (sym front) (sym back)

-- a file has no more lines than bytes
pub few_lines : (bs : List ℕ) → length (lines_of bs) ≤ length bs
few_lines [] = omega arith
few_lines (b ∷ bs) = chosen (eqb b 10) (eqb b 13 && feed_is_first bs) (lines_of bs) (few_lines bs)
  where
    chosen : (feed return : Bool) (ls : List (List ℕ)) → length ls ≤ length bs → length (cond feed ([] ∷ ls) (cond return ls (onto_first b ls))) ≤ length (b ∷ bs)
    chosen true return ls h = omega arith
    chosen false true ls h = omega arith
    chosen false false [] h = omega arith
    chosen false false (l ∷ ls) h = omega arith
