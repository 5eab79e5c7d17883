-- The marks that tests make are a trace.
use Rattle.std.proofs.Common.{◌≡◌, ℕ, inl, inr, ◌+◌, ◌<◌, ◌≤◌, Bool, true, IsTrue, ◌&&◌, leb, ltb, List, [], ◌∷◌, codes, length, map, get_or, refl, ap, arith}
use Rattle.std.specs.List.{list_all, range_with_len}
use Rattle.std.specs.List.Sorted.{IsNonDecreasingBy}
use Rattle.std.proofs.lemmas.Bool.Decides.{nat_tests}
use Rattle.std.proofs.lemmas.List.Elements.{All-nil, All-cons, All-map}
use Rattle.std.proofs.lemmas.List.FromFn.{length-map-range_with_len, get_or-map-range_with_len}
use Rattle.text_scan.specs.Forms.{is_word}
use Rattle.fer_events.specs.declared.event.Event.{Event}
use Rattle.fer_events.specs.Tables.{Trace, IsTrace, IsEventOf}
use Rattle.std.proofs.lemmas.List.Folds.{list_all_at}
use Rattle.order_coding.specs.Marks.{mark_event, mark_txn}
use Rattle.order_coding.proofs.GeneralLists.{All-from_contains}
use Rattle.order_coding.proofs.GeneralLists.{bit_cases, true_false}

abbrev pub marks : ℕ → ℕ → List Event
marks joined n = map (λ e. mark_event e (mark_txn joined e)) (range_with_len 1 n)

abbrev pub mark_trace : List Event → Trace
mark_trace events = record {
  start = record { slots = []; contents = []; attrs = [] };
  events = events;
  dirs = [];
  slots = [];
  keys = [];
  words = codes "m" ∷ [];
}

txn-rises : (joined a b : ℕ) → 1 ≤ a → a ≤ b → mark_txn joined a ≤ mark_txn joined b
txn-rises joined a b h l = grind (arith, nat_tests)

marks-rise :
    (key : Event → ℕ) (joined n : ℕ)
    → ((a b : ℕ) → 1 ≤ a → a ≤ b → key (mark_event a (mark_txn joined a)) ≤ key (mark_event b (mark_txn joined b)))
    → IsNonDecreasingBy key (marks joined n)
marks-rise key joined n up = λ i j d l h.
    let f : ℕ → Event = λ e. mark_event e (mark_txn joined e) in
    let short : j < n = omega (arith, length-map-range_with_len f 1 n) in
    let first = ap key (get_or-map-range_with_len f 1 n i (1 + i) d (omega arith) refl) in
    let second = ap key (get_or-map-range_with_len f 1 n j (1 + j) d short refl) in
    let rise = up (1 + i) (1 + j) (omega arith) (omega arith) in
    omega arith

pub length-marks : (joined n : ℕ) → length (marks joined n) ≡ n
length-marks joined n = length-map-range_with_len (λ e. mark_event e (mark_txn joined e)) 1 n

pub marks-trace : (joined n : ℕ) → n ≤ 128 → IsTrace (mark_trace (marks joined n))
marks-trace joined n few = record {
  slots_held = refl;
  files_there = All-nil _;
  contents_fit = All-nil _;
  attrs_there = All-nil _;
  attrs_once = λ i j d l k. absurd (omega arith);
  dirs_there = All-nil _;
  dirs_once = λ i j d l k. absurd (omega arith);
  slots_once = λ i j d l k. absurd (omega arith);
  keys_once = λ i j d l k. absurd (omega arith);
  words_once = λ i j d l k. absurd (omega arith);
  dirs_formed = All-nil _;
  slots_formed = All-nil _;
  keys_formed = All-nil _;
  words_formed = All-cons (λ word. IsTrue (is_word word)) (codes "m") [] (refl {a = true}) (All-nil (λ word. IsTrue (is_word word)));
  events_fit =
      All-map (IsEventOf (mark_trace (marks joined n))) (λ e. mark_event e (mark_txn joined e)) (range_with_len 1 n)
      (All-from_contains (λ e. IsEventOf (mark_trace (marks joined n)) (mark_event e (mark_txn joined e))) (range_with_len 1 n)
      (λ e _. record { carries = refl; file_there = tt; dir_there = tt; slot_there = tt; effect = omega arith }));
  calls_rise = marks-rise (λ e. e.call) joined n (λ a b h l. l);
  txns_rise = marks-rise (λ e. e.txn) joined n (λ a b h l. txn-rises joined a b h l);
  few_events = omega (arith, length-map-range_with_len (λ e. mark_event e (mark_txn joined e)) 1 n);
  few_files = omega arith;
  few_dirs = omega arith;
  few_slots = omega arith;
  few_keys = omega arith;
  few_words = omega arith;
}

-- the test that the tests' kept pairs pass
abbrev forward : ℕ → ℕ × ℕ → Bool
forward n p = leb 1 p.0 && ltb p.0 p.1 && leb p.1 n

forward-is : (n a b : ℕ) → (leb 1 a && ltb a b && leb b n) ≡ true → (1 ≤ a) × (a < b) × (b ≤ n)
forward-is n a b e = (grind (arith, nat_tests), grind (arith, nat_tests), grind (arith, nat_tests))

pub kept-forward :
    (n : ℕ) (kept : List (ℕ × ℕ)) (i : ℕ) (d : ℕ × ℕ)
    → list_all (λ p. leb 1 p.0 && ltb p.0 p.1 && leb p.1 n) kept ≡ true → i < length kept
    → (1 ≤ (get_or kept i d).0) × ((get_or kept i d).0 < (get_or kept i d).1) × ((get_or kept i d).1 ≤ n)
kept-forward n kept i d all h = elim (bit_cases (forward n (get_or kept i d))) [
  | inl t ↦ forward-is n (get_or kept i d).0 (get_or kept i d).1 t
  | inr f ↦ true_false (list_all (forward n) kept) all (list_all_at (forward n) kept i d h f)
]
