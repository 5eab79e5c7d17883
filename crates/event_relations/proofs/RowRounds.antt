-- Rounds over rows of bits, and the rows of a name that may name itself.
use Rattle.std.proofs.Common.{◌≡◌, ◌≢◌, ℕ, zero, suc, ◌+◌, ◌-◌, ◌<◌, ◌≤◌, ◌⊎◌, ◌↔◌, inl, inr, true, false, ◌||◌, ltb, filter, List, [], ◌∷◌, ◌++◌, length, get_or, Contains, refl, sym, ◌∙◌, ap, arith}
use Rattle.std.proofs.lemmas.Bool.{cases_eq, cases_Bool, and_parts, and_from}
use Rattle.std.proofs.lemmas.Bool.Decides.{nat_tests}
use Rattle.std.proofs.lemmas.List.{length_push, get_or_push, get_or_append_left}
use Rattle.fer_events.specs.declared.event.Event.{Event}
use Rattle.model_reader.specs.declared.expr.Expr.{Expr}
use Rattle.event_relations.specs.Rows.{has}
use Rattle.event_relations.specs.Meaning.{Names, Means, with_name, AreWithin, Defined}
use Rattle.event_relations.specs.Showing.{Shows, names_shown, shown, NamesWithin}
use Rattle.fer_events.specs.Pairs.{square}
use Rattle.fer_events.proofs.PairLaws.{has_self, has_pair-filter, in_square}
use Rattle.event_relations.proofs.Within.{has_contained, in_square_only, square_closed}
use Rattle.event_relations.proofs.Growing.{means_more}
use Rattle.event_relations.proofs.Joining.{or_cases, has_within}
use Rattle.event_relations.proofs.Sounding.{IsSound, sound_start, sound_round, rounds_end}

get_or_beyond : (xs : List (List ℕ)) (k : ℕ) (d : List ℕ) → length xs ≤ k → get_or xs k d ≡ d
get_or_beyond [] k d h = refl
get_or_beyond (x ∷ xs) zero d h = absurd (omega (arith, h))
get_or_beyond (x ∷ xs) (suc k) d h = get_or_beyond xs k d (omega (arith, h))

before :
    (names : List (List ℕ)) (rows : List ℕ) (i j a b : ℕ) → i ≡ length names → j ≢ i
    → has (get_or (names ++ rows ∷ []) j []) a b ≡ true → has (get_or names j []) a b ≡ true
before names rows i j a b is apart h = elim (cases_Bool (ltb j i)) [
  | inl e ↦
      let below : j < length names = grind (arith, nat_tests) in
      ap (λ (r : List ℕ). has r a b) (sym (get_or_append_left names (rows ∷ []) [] j below)) ∙ h
  | inr e ↦
      let past : length names + 1 ≤ j = grind (arith, nat_tests) in
      let none : get_or (names ++ rows ∷ []) j [] ≡ [] = get_or_beyond (names ++ rows ∷ []) j [] (omega (arith, past, length_push names rows)) in
      let wrong : has [] a b ≡ true = ap (λ (r : List ℕ). has r a b) (sym none) ∙ h in
      absurd (omega (arith, has_within [] a b wrong))
]

-- the names with these rows behind them are the names with one more
pub pushed_is_more :
    (names : List (List ℕ)) (rows : List ℕ) (i j a b : ℕ) → i ≡ length names → names_shown (names ++ rows ∷ []) j a b → with_name i (shown rows) (names_shown names) j a b
pushed_is_more names rows i j zero b is h = absurd h
pushed_is_more names rows i j (suc a) zero is h = absurd h
pushed_is_more names rows i j (suc a) (suc b) is h = elim (cases_eq j i) [
  | inl same ↦ inl (same, ap (λ (r : List ℕ). has r a b) (sym (get_or_push names rows [] j (sym is ∙ sym same))) ∙ h)
  | inr apart ↦ inr (apart, before names rows i j a b is apart h)
]

pub more_is_pushed :
    (names : List (List ℕ)) (rows : List ℕ) (i j a b : ℕ) → i ≡ length names → with_name i (shown rows) (names_shown names) j a b → names_shown (names ++ rows ∷ []) j a b
more_is_pushed names rows i j zero b is (inl own) = absurd own.1
more_is_pushed names rows i j zero b is (inr other) = absurd other.1
more_is_pushed names rows i j (suc a) zero is (inl own) = absurd own.1
more_is_pushed names rows i j (suc a) zero is (inr other) = absurd other.1
more_is_pushed names rows i j (suc a) (suc b) is (inl own) = ap (λ (r : List ℕ). has r a b) (get_or_push names rows [] j (sym is ∙ sym own.0)) ∙ own.1
more_is_pushed names rows i j (suc a) (suc b) is (inr other) = elim (cases_Bool (ltb j (length names))) [
  | inl e ↦ ap (λ (r : List ℕ). has r a b) (get_or_append_left names (rows ∷ []) [] j (grind (arith, nat_tests))) ∙ other.1
  | inr e ↦
      let past : length names ≤ j = grind (arith, nat_tests) in
      let wrong : has [] a b ≡ true = ap (λ (r : List ℕ). has r a b) (sym (get_or_beyond names j [] past)) ∙ other.1 in
      absurd (omega (arith, has_within [] a b wrong))
]

-- rows that show an expression over pushed names show it over the names with one more
pub pushed_shows :
    (events : List Event) (names : List (List ℕ)) (rows : List ℕ) (i : ℕ) (x : Expr) (more_rows : List ℕ) → i ≡ length names
    → Shows more_rows (Means events (names_shown (names ++ rows ∷ [])) x)
    → Shows more_rows (Means events (with_name i (shown rows) (names_shown names)) x)
pushed_shows events names rows i x more_rows is shows a b = (
  λ h. means_more events (names_shown (names ++ rows ∷ [])) (with_name i (shown rows) (names_shown names)) (λ j c d. pushed_is_more names rows i j c d is) x (suc a) (suc b) ((shows a b).0 h),
  λ m. (shows a b).1 (means_more events (with_name i (shown rows) (names_shown names)) (names_shown (names ++ rows ∷ [])) (λ j c d. more_is_pushed names rows i j c d is) x (suc a) (suc b) m),
)

nothing_shown : (rows : List ℕ) → ((a b : ℕ) → has rows a b ≡ false) → (a b : ℕ) → shown rows a b → ⊥
nothing_shown rows none zero b h = h
nothing_shown rows none (suc a) zero h = h
nothing_shown rows none (suc a) (suc b) h = let wrong : true ≡ false = sym h ∙ none a b in absurd (cc)

pub sound_rows_start : (events : List Event) (names : Names) (i : ℕ) (x : Expr) (rows : List ℕ) → ((a b : ℕ) → has rows a b ≡ false) → IsSound events names i x (shown rows)
sound_rows_start events names i x rows none = sound_start events names i x (shown rows) (nothing_shown rows none)

adds :
    (events : List Event) (names : Names) (i : ℕ) (x : Expr) (rows more_rows new : List ℕ) → Shows more_rows (Means events (with_name i (shown rows) names) x)
    → ((a b : ℕ) → has new a b ≡ (has rows a b || has more_rows a b))
    → (a b : ℕ) → shown new a b → shown rows a b ⊎ Means events (with_name i (shown rows) names) x a b
adds events names i x rows more_rows new shows is zero b h = absurd h
adds events names i x rows more_rows new shows is (suc a) zero h = absurd h
adds events names i x rows more_rows new shows is (suc a) (suc b) h = elim (or_cases _ _ (sym (is a b) ∙ h)) [
  | inl e ↦ inl e
  | inr e ↦ inr ((shows a b).0 e)
]

-- a round: the new rows have what the old ones have, and what the expression relates over them
pub sound_rows_round :
    (events : List Event) (names : Names) (i : ℕ) (x : Expr) (rows more_rows new : List ℕ) → IsSound events names i x (shown rows)
    → Shows more_rows (Means events (with_name i (shown rows) names) x)
    → ((a b : ℕ) → has new a b ≡ (has rows a b || has more_rows a b)) → IsSound events names i x (shown new)
sound_rows_round events names i x rows more_rows new sound shows is =
    sound_round events names i x (shown rows) (shown new) sound (adds events names i x rows more_rows new shows is)

-- the pairs that rows show, of the numbers from 1 to n
abbrev pub listed : ℕ → List ℕ → List (ℕ × ℕ)
listed n rows = filter (λ p. has rows (p.0 - 1) (p.1 - 1)) (square n)

shown_bit : (rows : List ℕ) (a b : ℕ) → 1 ≤ a → 1 ≤ b → (has rows (a - 1) (b - 1) ≡ true) ↔ shown rows a b
shown_bit rows zero b la lb = absurd (omega (arith, la))
shown_bit rows (suc a) zero la lb = absurd (omega (arith, lb))
shown_bit rows (suc a) (suc b) la lb =
    let first : suc a - 1 ≡ a = omega arith in
    let second : suc b - 1 ≡ b = omega arith in
    let same : has rows (suc a - 1) (suc b - 1) ≡ has rows a b = ap (λ (c : ℕ). has rows c (suc b - 1)) first ∙ ap (has rows a) second in
    (λ h. sym same ∙ h, λ h. same ∙ h)

listed_is : (n : ℕ) (rows : List ℕ) → ((a b : ℕ) → shown rows a b → AreWithin n a b) → (a b : ℕ) → Contains (listed n rows) (a, b) ↔ shown rows a b
listed_is n rows within a b = (
  λ h.
      let is = sym (has_pair-filter (λ p. has rows (p.0 - 1) (p.1 - 1)) a b (square n)) ∙ has_self (listed n rows) (a, b) h in
      let parts = and_parts _ _ is in
      let inside = in_square_only n a b (has_contained (square n) a b parts.1) in
      (shown_bit rows a b inside.first.0 inside.second.0).0 parts.0,
  λ h.
      let inside = within a b h in
      has_contained (listed n rows) a b
      (has_pair-filter (λ p. has rows (p.0 - 1) (p.1 - 1)) a b (square n)
      ∙ and_from _ _ ((shown_bit rows a b inside.first.0 inside.second.0).1 h) (in_square n a b inside.first.0 inside.first.1 inside.second.0 inside.second.1)),
)

-- where a round adds nothing, the rows show what the name stands for
pub rows_reached :
    (events : List Event) (names : Names) → NamesWithin events names → (i : ℕ) (x : Expr) (rows : List ℕ) → IsSound events names i x (shown rows)
    → ((a b : ℕ) → Means events (with_name i (shown rows) names) x a b → shown rows a b)
    → Shows rows (Defined events names i true x)
rows_reached events names ok i x rows sound closed a b =
    let n = length events in
    let within : (c d : ℕ) → shown rows c d → AreWithin n c d = λ c d h. in_square_only n c d (sound (square n) (square_closed events names ok i x) c d h) in
    rounds_end events names i x (shown rows) sound within closed (listed n rows) (listed_is n rows within) (suc a) (suc b)
