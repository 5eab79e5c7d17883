-- The four families, written one after another.
use Rattle.std.proofs.Common.{◌≡◌, ℕ, List, [], length, refl, ◌∙◌, ap}
use Rattle.clause_store.specs.declared.Lit.{Lit}
use Rattle.clause_store.specs.Clauses.{Formula}
use Rattle.fer_events.specs.declared.event.Event.{Event}
use Rattle.order_coding.specs.Variables.{order_vars}
use Rattle.order_coding.specs.Families.{kept_pairs, no_cycles, cut_is_prefix, transactions_whole, order_clauses, order_formula}
use Rattle.order_coding.specs.Growth.{IsBeginning}
use Rattle.order_coding.specs.Growth.{joined}
use Rattle.order_coding.proofs.GeneralGrowth.{beginning-joined, beginning-same}

module _ (events : List Event) (kept : List (ℕ × ℕ)) where
  abbrev count : ℕ
  count = length events

  abbrev empty : Formula
  empty = record { vars = order_vars count; clauses = [] }

  whole-is :
      joined (joined (joined (joined empty (kept_pairs count kept)) (no_cycles count)) (cut_is_prefix count)) (transactions_whole events) ≡ order_formula events kept
  unfolding order_clauses
  whole-is = refl

  first-is :
      (p : ℕ) (s0 : Formula) → p ≡ count → s0 ≡ empty
      → joined s0 (kept_pairs p kept) ≡ joined empty (kept_pairs count kept)
  first-is p s0 e e0 = ap (λ k. joined s0 (kept_pairs k kept)) e ∙ ap (λ s. joined s (kept_pairs count kept)) e0

  next-is :
      (family : ℕ → List (List Lit)) (n : ℕ) (s t : Formula) → n ≡ count → s ≡ t
      → joined s (family n) ≡ joined t (family count)
  next-is family n s t e es = ap (λ k. joined s (family k)) e ∙ ap (λ x. joined x (family count)) es

  pub in-first :
      (p : ℕ) (s0 new : Formula) → p ≡ count → s0 ≡ empty → IsBeginning new (joined s0 (kept_pairs p kept))
      → IsBeginning new (order_formula events kept)
  in-first p s0 new e e0 b =
      beginning-same new _ _ whole-is
      (beginning-joined new _ (transactions_whole events)
      (beginning-joined new _ (cut_is_prefix count)
      (beginning-joined new _ (no_cycles count) (beginning-same new _ _ (first-is p s0 e e0) b))))

  pub in-second :
      (p n : ℕ) (s0 s1 new : Formula) → p ≡ count → n ≡ count → s0 ≡ empty → s1 ≡ joined s0 (kept_pairs p kept)
      → IsBeginning new (joined s1 (no_cycles n)) → IsBeginning new (order_formula events kept)
  in-second p n s0 s1 new e en e0 e1 b =
      beginning-same new _ _ whole-is
      (beginning-joined new _ (transactions_whole events)
      (beginning-joined new _ (cut_is_prefix count)
      (beginning-same new _ _ (next-is no_cycles n s1 _ en (e1 ∙ first-is p s0 e e0)) b)))

  pub in-third :
      (p n : ℕ) (s0 s1 s2 new : Formula) → p ≡ count → n ≡ count → s0 ≡ empty
      → s1 ≡ joined s0 (kept_pairs p kept) → s2 ≡ joined s1 (no_cycles n)
      → IsBeginning new (joined s2 (cut_is_prefix n)) → IsBeginning new (order_formula events kept)
  in-third p n s0 s1 s2 new e en e0 e1 e2 b =
      beginning-same new _ _ whole-is
      (beginning-joined new _ (transactions_whole events)
      (beginning-same new _ _ (next-is cut_is_prefix n s2 _ en (e2 ∙ next-is no_cycles n s1 _ en (e1 ∙ first-is p s0 e e0))) b))

  all-is :
      (p n : ℕ) (es : List Event) (s0 s1 s2 s3 : Formula) → p ≡ count → n ≡ count → es ≡ events → s0 ≡ empty
      → s1 ≡ joined s0 (kept_pairs p kept) → s2 ≡ joined s1 (no_cycles n) → s3 ≡ joined s2 (cut_is_prefix n)
      → joined s3 (transactions_whole es) ≡ order_formula events kept
  all-is p n es s0 s1 s2 s3 e en ee e0 e1 e2 e3 =
      ap (λ xs. joined s3 (transactions_whole xs)) ee
      ∙ ap (λ s. joined s (transactions_whole events)) (e3 ∙ next-is cut_is_prefix n s2 _ en (e2 ∙ next-is no_cycles n s1 _ en (e1 ∙ first-is p s0 e e0)))
      ∙ whole-is

  pub in-fourth :
      (p n : ℕ) (es : List Event) (s0 s1 s2 s3 new : Formula) → p ≡ count → n ≡ count → es ≡ events → s0 ≡ empty
      → s1 ≡ joined s0 (kept_pairs p kept) → s2 ≡ joined s1 (no_cycles n) → s3 ≡ joined s2 (cut_is_prefix n)
      → IsBeginning new (joined s3 (transactions_whole es)) → IsBeginning new (order_formula events kept)
  in-fourth p n es s0 s1 s2 s3 new e en ee e0 e1 e2 e3 b =
      beginning-same new _ _ (all-is p n es s0 s1 s2 s3 e en ee e0 e1 e2 e3) b

  pub all-four :
      (p n : ℕ) (es : List Event) (s0 s1 s2 s3 new : Formula) → p ≡ count → n ≡ count → es ≡ events → s0 ≡ empty
      → s1 ≡ joined s0 (kept_pairs p kept) → s2 ≡ joined s1 (no_cycles n) → s3 ≡ joined s2 (cut_is_prefix n)
      → new ≡ joined s3 (transactions_whole es) → new ≡ order_formula events kept
  all-four p n es s0 s1 s2 s3 new e en ee e0 e1 e2 e3 is =
      is ∙ all-is p n es s0 s1 s2 s3 e en ee e0 e1 e2 e3
