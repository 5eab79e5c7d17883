-- The generated question has its forms, and is short.
use Rattle.std.proofs.Common.{◌≡◌, ℕ, zero, suc, ◌+◌, ◌-◌, ◌*◌, ◌<◌, ◌≤◌, ◌^◌, Bool, true, false, List, refl, ap, arith, ◌∙◌, sym, ◌&&◌, subst}
use Rattle.std.specs.Prelude.{max, if◌then◌else◌}
use Rattle.text_scan.specs.Forms.{is_word}
use Rattle.litmus_syntax.specs.declared.pred.Pred as whole
use Rattle.litmus_syntax.specs.declared.pred.Pred.{Pred, fold-roll-Pred}
use Rattle.litmus_syntax.specs.declared.pred.Pred.TheOpen as atom
use Rattle.litmus_syntax.specs.declared.pred.Pred.TheVariants.{False, Exists, Seen, Not, And, Or}
use Rattle.litmus_syntax.specs.declared.pred.Binding.{Binding}
use Rattle.litmus_syntax.specs.declared.pred.Binding.TheVariants.{Disjunction, Conjunction, Operand}
use Rattle.litmus_syntax.specs.Bindings.{is_looser}
use Rattle.litmus_syntax.specs.Counts.{Counts, counts, counts_of, constant_counts, atom_counts, named_counts, operand_depth, joined_counts, IsShortPred}
use Rattle.litmus_syntax.specs.Forms.{is_formed_of, is_formed_path, is_formed_pred}
use Rattle.model_library.specs.Generated.{numbered, path_of, lost_before, generated_pred}
use Rattle.model_library.proofs.Decimals.{mark_word, file_path, both}

form_false : is_formed_pred False ≡ true
unfolding whole.roll-Pred denote.Hole.Carrier.roll
form_false = fold-roll-Pred Bool is_formed_of atom.False

form_seen : (word : List ℕ) → is_formed_pred (Seen word) ≡ is_word word
unfolding whole.roll-Pred denote.Hole.Carrier.roll
form_seen word = fold-roll-Pred Bool is_formed_of (atom.Seen word)

form_exists : (path : List (List ℕ)) → is_formed_pred (Exists path) ≡ is_formed_path path
unfolding whole.roll-Pred denote.Hole.Carrier.roll
form_exists path = fold-roll-Pred Bool is_formed_of (atom.Exists path)

form_not : (p : Pred) → is_formed_pred (Not p) ≡ is_formed_pred p
unfolding whole.roll-Pred denote.Hole.Carrier.roll
form_not p = fold-roll-Pred Bool is_formed_of (atom.Not p)

form_and : (p q : Pred) → is_formed_pred (And p q) ≡ is_formed_pred p && is_formed_pred q
unfolding whole.roll-Pred denote.Hole.Carrier.roll
form_and p q = fold-roll-Pred Bool is_formed_of (atom.And p q)

form_or : (p q : Pred) → is_formed_pred (Or p q) ≡ is_formed_pred p && is_formed_pred q
unfolding whole.roll-Pred denote.Hole.Carrier.roll
form_or p q = fold-roll-Pred Bool is_formed_of (atom.Or p q)

count_false : counts False ≡ constant_counts
unfolding whole.roll-Pred denote.Hole.Carrier.roll
count_false = fold-roll-Pred Counts counts_of atom.False

count_seen : (word : List ℕ) → counts (Seen word) ≡ named_counts word
unfolding whole.roll-Pred denote.Hole.Carrier.roll
count_seen word = fold-roll-Pred Counts counts_of (atom.Seen word)

count_exists : (path : List (List ℕ)) → counts (Exists path) ≡ atom_counts 0
unfolding whole.roll-Pred denote.Hole.Carrier.roll
count_exists path = fold-roll-Pred Counts counts_of (atom.Exists path)

abbrev not_counts : Counts → Counts
not_counts c = record { texts = c.texts; words = c.words; nots = suc c.nots; depth = operand_depth Operand c; binding = Operand }

count_not : (p : Pred) → counts (Not p) ≡ not_counts (counts p)
unfolding whole.roll-Pred denote.Hole.Carrier.roll
count_not p = fold-roll-Pred Counts counts_of (atom.Not p)

count_and : (p q : Pred) → counts (And p q) ≡ joined_counts Conjunction Conjunction Operand (counts p) (counts q)
unfolding whole.roll-Pred denote.Hole.Carrier.roll
count_and p q = fold-roll-Pred Counts counts_of (atom.And p q)

count_or : (p q : Pred) → counts (Or p q) ≡ joined_counts Disjunction Disjunction Conjunction (counts p) (counts q)
unfolding whole.roll-Pred denote.Hole.Carrier.roll
count_or p q = fold-roll-Pred Counts counts_of (atom.Or p q)

-- what is asked of one mark
lost_formed : (n : ℕ) → n < 2 ^ 32 → is_formed_pred (lost_before n) ≡ true
lost_formed n small =
    let seen : Pred = Seen (numbered 109 n) in
    let there : Pred = Exists (path_of (numbered 110 (n - 7))) in
    form_and seen (Not there)
    ∙ both (is_formed_pred seen) (is_formed_pred (Not there)) (form_seen (numbered 109 n) ∙ mark_word n small)
    (form_not there ∙ form_exists (path_of (numbered 110 (n - 7))) ∙ file_path (n - 7) (omega (arith, small)))

abbrev lost_counts : Counts
lost_counts = record { texts = 0; words = 2; nots = 1; depth = 1; binding = Conjunction }

lost_counted : (n : ℕ) → counts (lost_before n) ≡ lost_counts
lost_counted n =
    let seen : Pred = Seen (numbered 109 n) in
    let there : Pred = Exists (path_of (numbered 110 (n - 7))) in
    count_and seen (Not there)
    ∙ ap (λ (c : Counts). joined_counts Conjunction Conjunction Operand c (counts (Not there))) (count_seen (numbered 109 n))
    ∙ ap (λ (c : Counts). joined_counts Conjunction Conjunction Operand (named_counts (numbered 109 n)) c) (count_not there ∙ ap not_counts (count_exists (path_of (numbered 110 (n - 7)))))

-- all marks
pub pred_formed : (n : ℕ) → 8 * n < 2 ^ 32 → is_formed_pred (generated_pred n) ≡ true
pred_formed zero small = form_false
pred_formed (suc zero) small = lost_formed 8 (omega arith)
pred_formed (suc (suc n)) small =
    form_or (generated_pred (suc n)) (lost_before (8 * (n + 2)))
    ∙ both (is_formed_pred (generated_pred (suc n))) (is_formed_pred (lost_before (8 * (n + 2)))) (pred_formed (suc n) (omega (arith, small))) (lost_formed (8 * (n + 2)) (omega (arith, small)))

-- the counts over this many marks
record IsSmall (n : ℕ) (c : Counts) : Type 0 where
  texts : c.texts ≡ 0
  words : c.words ≡ n + n
  nots : c.nots ≡ n
  depth : c.depth ≡ 1

loosest : (b : Binding) → is_looser b Disjunction ≡ false
loosest Disjunction = refl
loosest Conjunction = refl
loosest Operand = refl

more_small : (n : ℕ) (c : Counts) → IsSmall n c → IsSmall (suc n) (joined_counts Disjunction Disjunction Conjunction c lost_counts)
more_small n c h = record {
  texts = omega (arith, h.texts);
  words = omega (arith, h.words);
  nots = omega (arith, h.nots);
  depth =
      let left : operand_depth Disjunction c ≡ 1 = ap (λ (b : Bool). if b then suc c.depth else c.depth) (loosest c.binding) ∙ h.depth in
      ap (λ (d : ℕ). max d 1) left;
}

pred_small : (n : ℕ) → IsSmall (suc n) (counts (generated_pred (suc n)))
pred_small zero = subst (IsSmall 1) (sym (lost_counted 8)) (record { texts = refl; words = refl; nots = refl; depth = refl })
pred_small (suc n) =
    let here : counts (generated_pred (suc (suc n))) ≡ joined_counts Disjunction Disjunction Conjunction (counts (generated_pred (suc n))) lost_counts =
    count_or (generated_pred (suc n)) (lost_before (8 * (n + 2)))
    ∙ ap (λ (c : Counts). joined_counts Disjunction Disjunction Conjunction (counts (generated_pred (suc n))) c) (lost_counted (8 * (n + 2))) in
    subst (IsSmall (suc (suc n))) (sym here) (more_small (suc n) (counts (generated_pred (suc n))) (pred_small n))

abbrev IsShort : Counts → Type 0
IsShort c = (c.texts ≤ 4096) × (c.words ≤ 256) × (c.nots ≤ 256) × (c.depth ≤ 64)

small_short : (n : ℕ) (c : Counts) → n ≤ 128 → IsSmall n c → IsShort c
small_short n c most h = (omega (arith, h.texts), omega (arith, h.words), omega (arith, h.nots), omega (arith, h.depth))

pred_counts : (n : ℕ) → n ≤ 128 → IsShort (counts (generated_pred n))
pred_counts zero most = subst IsShort (sym count_false) (omega arith, omega arith, omega arith, omega arith)
pred_counts (suc n) most = small_short (suc n) (counts (generated_pred (suc n))) most (pred_small n)

pub pred_short : (n : ℕ) → n ≤ 128 → IsShortPred (generated_pred n)
pred_short n most = let h = pred_counts n most in record { texts = h.0; words = h.1; nots = h.2; depth = h.3 }
