-- Values that make the families true say a crash.
use Rattle.std.proofs.Common.{◌≡◌, ◌≢◌, ℕ, zero, suc, ◌+◌, ◌-◌, ◌<◌, ◌≤◌, inl, inr, List, [], ◌∷◌, ◌++◌, length, drop, get_or, filter, Contains, IsPermutation, Bool, true, false, not, refl, sym, ◌∙◌, ap, arith}
use Rattle.std.specs.List.{range_with_len}
use Rattle.std.specs.List.Sorted.{IsNonDecreasingBy, IsStrictlyIncreasing}
use Rattle.std.proofs.Math.Seq.{drop-append_seam}
use Rattle.std.proofs.lemmas.Bool.{cases_eq}
use Rattle.std.proofs.lemmas.List.{append_assoc, take-append-drop}
use Rattle.std.proofs.lemmas.List.Sums.{length-filter, count_by-le-length}
use Rattle.std.proofs.lemmas.List.Kept.{IsStrictlyIncreasing-filter, AllPairs-from_increasing}
use Rattle.std.proofs.lemmas.List.Elements.{Contains-append_left, Contains-append_right, All-contains}
use Rattle.std.proofs.lemmas.List.Sorted.{IsPermutation-filter_both, IsPermutation-append_left, IsPermutation-trans, Contains-permutation, IsPermutation-sym, length_permutation}
use Rattle.std.proofs.lemmas.List.FromFn.{length-range_with_len, get_or-range_with_len}
use Rattle.clause_store.specs.Clauses.{negated}
use Rattle.clause_store.specs.Truth.{is_true}
use Rattle.clause_store.proofs.GeneralLiterals.{is_true-negated}
use Rattle.clause_store.proofs.GeneralLists.{Contains-filter, Contains-from_filter}
use Rattle.fer_events.specs.declared.event.Event.{Event}
use Rattle.fer_events.specs.declared.event.Crash.{Crash}
use Rattle.fer_events.specs.Orders.{numbers, StandsBefore, before_cut, IsCrash, AreForward}
use Rattle.order_coding.proofs.GeneralLists.{numbers-increase}
use Rattle.order_coding.specs.Tournament.{IsTournament, HasNoCycle}
use Rattle.order_coding.specs.Variables.{IsNumber, before_lit}
use Rattle.order_coding.specs.Families.{txn_of}
use Rattle.order_coding.specs.Decoded.{is_in, is_before, predecessors, IsDecoded}
use Rattle.order_coding.proofs.GeneralLists.{order-of}
use Rattle.order_coding.proofs.Meaning.{AreMeant}
use Rattle.order_coding.proofs.GeneralOrders.{times, times-append, ordered-once, place, places-from_stands, numbers-contain, numbers-within, stands-from_reads}
use Rattle.order_coding.proofs.GeneralLiterals.{is_before-is, is_before-same, before_lit-up, before_lit-down}
use Rattle.order_coding.proofs.GeneralLists.{bit_cases, true_false}
use Rattle.order_coding.proofs.Ranks.{turned, either, rank-less}
use Rattle.order_coding.proofs.Transactions.{number-of, txn-is, txns-rise}

-- the literal of two events is the negation of that of the same two the other way round
lit-turned : (n a b : ℕ) → a ≢ b → before_lit n a b ≡ negated (before_lit n b a)
lit-turned n a b ne = elim (order-of a b) [
  | inl l ↦ before_lit-up n a b l ∙ sym (ap negated (before_lit-down n b a l))
  | inr (inl same) ↦ absurd (ne same)
  | inr (inr l) ↦ before_lit-down n a b l ∙ sym (ap negated (before_lit-up n b a l))
]

module _ (v : List Bool) (events : List Event) (kept : List (ℕ × ℕ)) (m : AreMeant v events kept) where
  abbrev n : ℕ
  n = length events

  abbrev before : ℕ → ℕ → Bool
  before = is_before n v

  pub tournament : IsTournament (numbers n) before
  tournament = record {
    one = λ x y cx cy ne.
        let other : y ≢ x = λ e. ne (sym e) in
        is_before-is n v x y ne ∙ ap (is_true v) (lit-turned n x y ne) ∙ is_true-negated v (before_lit n y x)
        ∙ ap not (sym (is_before-is n v y x other));
    none = λ x cx. is_before-same n v x x refl;
  }

  lit-of : (a b : ℕ) → a ≢ b → before a b ≡ true → is_true v (before_lit n a b) ≡ true
  lit-of a b ne t = sym (is_before-is n v a b ne) ∙ t

  of-lit : (a b : ℕ) → a ≢ b → is_true v (before_lit n a b) ≡ true → before a b ≡ true
  of-lit a b ne t = is_before-is n v a b ne ∙ t

  lit-no : (a b : ℕ) → a ≢ b → before a b ≡ false → is_true v (before_lit n a b) ≡ false
  lit-no a b ne t = sym (is_before-is n v a b ne) ∙ t

  up-case :
      (p q r : ℕ) → 1 ≤ p → p < q → q < r → r ≤ n → before p q ≡ true → before q r ≡ true → before r p ≡ true
      → ⊥
  up-case p q r lp lq lr lim e f g =
      let pq : p ≢ q = omega arith in
      let qr : q ≢ r = omega arith in
      let pr : p ≢ r = omega arith in
      let t = of-lit p r pr (m.up p q r lp lq lr lim (lit-of p q pq e) (lit-of q r qr f)) in
      true_false (before p r) t
      (turned (numbers n) before tournament r p (numbers-contain n r (omega arith, lim)) (numbers-contain n p (lp, omega arith)) g)

  down-case :
      (p q r : ℕ) → 1 ≤ p → p < q → q < r → r ≤ n → before p r ≡ true → before r q ≡ true → before q p ≡ true
      → ⊥
  down-case p q r lp lq lr lim e f g =
      let pq : p ≢ q = omega arith in
      let qr : q ≢ r = omega arith in
      let pr : p ≢ r = omega arith in
      let cp = numbers-contain n p (lp, omega arith) in
      let cq = numbers-contain n q (omega arith, omega arith) in
      let cr = numbers-contain n r (omega arith, lim) in
      true_false (is_true v (before_lit n p r)) (lit-of p r pr e)
      (m.down p q r lp lq lr lim (lit-no p q pq (turned (numbers n) before tournament q p cq cp g))
      (lit-no q r qr (turned (numbers n) before tournament r q cr cq f)))

  none : (x : ℕ) {A : Type 0} → (y : ℕ) → x ≡ y → before x y ≡ true → A
  none x y same e = true_false (before x y) e (is_before-same n v x y same)

  pub no-cycle : HasNoCycle (numbers n) before
  no-cycle x y z cx cy cz e f g =
      let wx = numbers-within n x cx in
      let wy = numbers-within n y cy in
      let wz = numbers-within n z cz in
      elim (order-of x y) [
        | inl xy ↦ elim (order-of y z) [
          | inl yz ↦ up-case x y z wx.0 xy yz wz.1 e f g
          | inr (inl same) ↦ none y z same f
          | inr (inr zy) ↦ elim (order-of x z) [
            | inl xz ↦ down-case x z y wx.0 xz zy wy.1 e f g
            | inr (inl same) ↦ none z x (sym same) g
            | inr (inr zx) ↦ up-case z x y wz.0 zx xy wy.1 g e f
          ]
        ]
        | inr (inl same) ↦ none x y same e
        | inr (inr yx) ↦ elim (order-of x z) [
          | inl xz ↦ down-case y x z wy.0 yx xz wz.1 f g e
          | inr (inl same) ↦ none z x (sym same) g
          | inr (inr zx) ↦ elim (order-of y z) [
            | inl yz ↦ up-case y z x wy.0 yz zx wx.1 f g e
            | inr (inl same) ↦ none y z same f
            | inr (inr zy) ↦ down-case z y x wz.0 zy yx wx.1 g e f
          ]
        ]
      ]

  -- events of one transaction are all in or all not
  same-step :
      IsNonDecreasingBy (λ e. e.txn) events → (d a : ℕ) → 1 ≤ a → a + d ≤ n
      → txn_of events a ≡ txn_of events (a + d) → is_in v a ≡ is_in v (a + d)
  same-step rise zero a la lim same = let e : a ≡ a + zero = omega arith in ap (is_in v) e
  same-step rise (suc d) a la lim same =
      let far : a + 1 + d ≡ a + suc d = omega arith in
      let up = txns-rise events a (a + 1) rise (la, omega arith) (omega arith, omega arith) (omega arith) in
      let down = txns-rise events (a + 1) (a + suc d) rise (omega arith, omega arith) (omega arith, lim) (omega arith) in
      let here : txn_of events a ≡ txn_of events (a + 1) = omega arith in
      let there : txn_of events (a + 1) ≡ txn_of events (a + 1 + d) = sym here ∙ same ∙ ap (txn_of events) (sym far) in
      let short : IsNumber (n - 1) a = (la, omega arith) in
      let one : is_in v a ≡ is_in v (a + 1) = both (is_in v a) (is_in v (a + 1)) (m.next a short here) (m.last a short here) in
      one ∙ same-step rise d (a + 1) (omega arith) (omega arith) there ∙ ap (is_in v) far
    where
      both : (p q : Bool) → (p ≡ true → q ≡ true) → (q ≡ true → p ≡ true) → p ≡ q
      both true q h k = sym (h refl)
      both false true h k = k refl
      both false false h k = refl

  pub same-in :
      IsNonDecreasingBy (λ e. e.txn) events → (a b : ℕ) → IsNumber n a → IsNumber n b
      → txn_of events a ≡ txn_of events b → is_in v a ≡ is_in v b
  same-in rise a b ia ib same = elim (order-of a b) [
    | inl l ↦
        let far : a + (b - a) ≡ b = omega arith in
        same-step rise (b - a) a ia.0 (omega (arith, ib.1)) (same ∙ ap (txn_of events) (sym far)) ∙ ap (is_in v) far
    | inr (inl e) ↦ ap (is_in v) e
    | inr (inr l) ↦
        let far : b + (a - b) ≡ a = omega arith in
        sym (same-step rise (a - b) b ib.0 (omega (arith, ia.1)) (sym same ∙ ap (txn_of events) (sym far)) ∙ ap (is_in v) far)
  ]

-- what is known of a list of numbers that stands somewhere in a longer one
stands-left : (xs ys : List ℕ) (a b : ℕ) → StandsBefore xs a b → StandsBefore (xs ++ ys) a b
stands-left xs ys a b (front, back, is, ca, cb) =
    (front, back ++ ys, ap (λ l. l ++ ys) is ∙ append_assoc front back ys, ca, Contains-append_left back ys b cb)

stands-right : (xs ys : List ℕ) (a b : ℕ) → StandsBefore ys a b → StandsBefore (xs ++ ys) a b
stands-right xs ys a b (front, back, is, ca, cb) =
    (xs ++ front, back, ap (λ l. xs ++ l) is ∙ sym (append_assoc xs front back), Contains-append_right xs front a ca, cb)

stands-across : (xs ys : List ℕ) (a b : ℕ) → Contains xs a → Contains ys b → StandsBefore (xs ++ ys) a b
stands-across xs ys a b ca cb = (xs, ys, refl, ca, cb)

-- in a list that doesn't fall by a key, a lower key stands before a higher one
stands-by :
    (key : ℕ → ℕ) (xs : List ℕ) (a b : ℕ) → IsNonDecreasingBy key xs → Contains xs a → Contains xs b
    → key a < key b → StandsBefore xs a b
stands-by key xs a b rise (i, li, ei) (j, lj, ej) l = elim (order-of i j) [
  | inl lt ↦ stands-from_reads a b i j xs lt lj ei ej
  | inr rest ↦
      let le : j ≤ i = elim rest [ inl e ↦ omega arith | inr gt ↦ omega arith ] in
      let up = rise j i b le li in
      absurd (omega (arith, up, ap key ej, ap key (at-default xs i b a li ∙ ei)))
]
  where
    at-default : (xs : List ℕ) (i d e : ℕ) → i < length xs → get_or xs i d ≡ get_or xs i e
    at-default [] i d e h = absurd (omega arith)
    at-default (x ∷ xs) zero d e h = refl
    at-default (x ∷ xs) (suc i) d e h = at-default xs i d e (omega arith)

module _ (v : List Bool) (events : List Event) (crash : Crash) (d : IsDecoded (length events) v crash) where
  abbrev count : ℕ
  count = length events

  abbrev out : List ℕ
  out = filter (λ e. not (is_in v e)) (numbers count)

  pub inside-of : (e : ℕ) → Contains (before_cut crash) e → IsNumber count e × (is_in v e ≡ true)
  inside-of e h =
      let chosen = Contains-permutation (before_cut crash) (filter (is_in v) (numbers count)) e (IsPermutation-sym (filter (is_in v) (numbers count)) (before_cut crash) d.inside) h in
      let kept = Contains-from_filter (is_in v) (numbers count) e chosen in
      (numbers-within count e kept.0, kept.1)

  pub of-inside : (e : ℕ) → IsNumber count e → is_in v e ≡ true → Contains (before_cut crash) e
  of-inside e is t =
      Contains-permutation (filter (is_in v) (numbers count)) (before_cut crash) e d.inside
      (Contains-filter (is_in v) (numbers count) e (numbers-contain count e is) t)

  of-outside : (e : ℕ) → IsNumber count e → is_in v e ≡ false → Contains out e
  of-outside e is f = Contains-filter (λ x. not (is_in v x)) (numbers count) e (numbers-contain count e is) (ap not f)

  pub permutes : IsPermutation (numbers count) crash.order
  permutes =
      rw d.order
      (IsPermutation-trans (numbers count) (filter (is_in v) (numbers count) ++ out) (before_cut crash ++ out)
      (IsPermutation-filter_both (is_in v) (λ e. not (is_in v e)) (λ _. refl) (numbers count))
      (IsPermutation-append_left out (filter (is_in v) (numbers count)) (before_cut crash) d.inside))

  out-increases : IsStrictlyIncreasing out
  out-increases = IsStrictlyIncreasing-filter (λ e. not (is_in v e)) (numbers count) (numbers-increase 1 count)

  out-rises : IsNonDecreasingBy (λ x. x) out
  out-rises = λ i j e l h. elim (order-of i j) [
    | inl lt ↦ let up = AllPairs-from_increasing out out-increases i j e lt h in omega arith
    | inr (inl same) ↦ let is = ap (λ k. get_or out k e) same in omega arith
    | inr (inr gt) ↦ absurd (omega arith)
  ]

  cut-long : length (before_cut crash) ≡ crash.cut
  cut-long =
      length_permutation (filter (is_in v) (numbers count)) (before_cut crash) d.inside ∙ length-filter (is_in v) (numbers count)
      ∙ sym d.cut

  -- the events after the cut ascend
  pub ascends : IsStrictlyIncreasing (drop crash.cut crash.order)
  ascends =
      let rest : drop crash.cut crash.order ≡ out = ap (drop crash.cut) d.order ∙ ap (λ k. drop k (before_cut crash ++ out)) (sym cut-long) ∙ drop-append_seam (before_cut crash) out in
      rw rest out-increases

  pub crashes :
      (kept : List (ℕ × ℕ)) → IsNonDecreasingBy (λ e. e.txn) events → AreForward count kept
      → AreMeant v events kept → IsCrash events kept crash
  crashes kept rise forward m = record {
    valid = record {
      permutes = permutes;
      keeps = λ a b h.
          let pair = All-contains (λ p. (1 ≤ p.0) × (p.0 < p.1) × (p.1 ≤ count)) kept (a, b) forward h in
          let first : IsNumber count a = (pair.0, omega (arith, pair.1, pair.2)) in
          let second : IsNumber count b = (omega (arith, pair.0, pair.1), pair.2) in
          let ne : a ≢ b = (let l = pair.1 in omega arith) in
          let stands : StandsBefore (before_cut crash ++ out) a b = placed kept m a b first second ne pair.1 (m.keeps a b h) in
          rw d.order stands;
    };
    within = omega (arith, d.cut, count_by-le-length (is_in v) (numbers count), length-range_with_len 1 count);
    whole = λ a b (x, y, ex, ey, same) h.
        let first = number-of events a x ex in
        let second = number-of events b y ey in
        let txns = txn-is events a x ex ∙ same ∙ sym (txn-is events b y ey) in
        of-inside b second (sym (same-in v events kept m rise a b first second txns) ∙ (inside-of a h).1);
  }
    where
      placed :
          (kept : List (ℕ × ℕ)) → AreMeant v events kept → (a b : ℕ) → IsNumber count a → IsNumber count b → a ≢ b → a < b
          → is_true v (before_lit count a b) ≡ true → StandsBefore (before_cut crash ++ out) a b
      placed kept m a b ia ib ne l t = elim (bit_cases (is_in v b)) [
        | inl b_in ↦
            let a_in = m.prefix a b ia ib ne b_in t in
            let before : is_before count v a b ≡ true = is_before-is count v a b ne ∙ t in
            let less : predecessors count v a < predecessors count v b =
            rank-less (numbers count) (is_before count v) (tournament v events kept m) (no-cycle v events kept m) a b (numbers-contain count a ia) (numbers-contain count b ib) before in
            stands-left (before_cut crash) out a b
            (stands-by (predecessors count v) (before_cut crash) a b d.by_place (of-inside a ia a_in) (of-inside b ib b_in) less)
        | inr b_out ↦ elim (bit_cases (is_in v a)) [
          | inl a_in ↦ stands-across (before_cut crash) out a b (of-inside a ia a_in) (of-outside b ib b_out)
          | inr a_out ↦
              stands-right (before_cut crash) out a b
              (stands-by (λ x. x) out a b out-rises (of-outside a ia a_out) (of-outside b ib b_out) l)
        ]
      ]

-- up to the cut, the values describe the crash
module _ (v : List Bool) (events : List Event) (kept : List (ℕ × ℕ)) (crash : Crash) (m : AreMeant v events kept) (d : IsDecoded (length events) v crash) where
  abbrev all : ℕ
  all = length events

  pub described-before :
      (a b : ℕ) → Contains (before_cut crash) a → Contains (before_cut crash) b → is_before all v a b ≡ true
      → StandsBefore (before_cut crash) a b
  described-before a b ca cb t =
      let ia = (inside-of v events crash d a ca).0 in
      let ib = (inside-of v events crash d b cb).0 in
      stands-by (predecessors all v) (before_cut crash) a b d.by_place ca cb
      (rank-less (numbers all) (is_before all v) (tournament v events kept m) (no-cycle v events kept m) a b (numbers-contain all a ia) (numbers-contain all b ib) t)

  pub before-described :
      (a b : ℕ) → Contains (before_cut crash) a → Contains (before_cut crash) b
      → StandsBefore (before_cut crash) a b → is_before all v a b ≡ true
  before-described a b ca cb h =
      let ia = (inside-of v events crash d a ca).0 in
      let ib = (inside-of v events crash d b cb).0 in
      let once : (e : ℕ) → times e (before_cut crash) ≤ 1 = λ e.
      let whole = ordered-once all crash.order e (permutes v events crash d) in
      let split = ap (times e) (sym (take-append-drop crash.cut crash.order)) ∙ times-append e (before_cut crash) (drop crash.cut crash.order) in
      omega arith in
      let less = places-from_stands a b (before_cut crash) (once b) h in
      elim (cases_eq a b) [
        | inl same ↦ let e : place a (before_cut crash) ≡ place b (before_cut crash) = ap (λ k. place k (before_cut crash)) same in absurd (omega arith)
        | inr ne ↦ elim (either (numbers all) (is_before all v) (tournament v events kept m) a b (numbers-contain all a ia) (numbers-contain all b ib) ne) [
          | inl t ↦ t
          | inr t ↦ let back = places-from_stands b a (before_cut crash) (once a) (described-before b a cb ca t) in absurd (omega arith)
        ]
      ]
