use Rattle.std.proofs.Common.{◌≡◌, ℕ, List, ◌∷◌, length, sym, ◌∙◌, ap, arith}
use Rattle.std.proofs.lemmas.Bool.{eqb-true}
use Rattle.witness_replay.proofs.CrashReading.{bar_span}
use Rattle.witness_replay.proofs.reading.behind_bar.Goals as goal

pub returns-then-is_empty : goal.returns-then-is_empty
returns-then-is_empty c = λ behind bar.
    let spans = bar_span c.args.bytes.now c.split_spaces.result.0.now c.split_spaces.result.1.now behind c.split_spaces.ensures bar in
    omega (arith, spans.0, eqb-true (length c.split_spaces.result.0.now) 0 (sym c.is_empty.ensures ∙ c.if-is_empty.true))

pub returns-in_default : goal.returns-in_default
returns-in_default c = λ behind bar.
    let spans = bar_span c.args.bytes.now c.split_spaces.result.0.now c.split_spaces.result.1.now behind c.split_spaces.ensures bar in
    omega (arith, c.in_default.ensures.cases, ap (λ (l : List ℕ). length l) spans.1)

pub returns-then-first-ne124 : goal.returns-then-first-ne124
returns-then-first-ne124 c = λ behind bar.
    let spans = bar_span c.args.bytes.now c.split_spaces.result.0.now c.split_spaces.result.1.now behind c.split_spaces.ensures bar in
    let e : c.in-Some.first.now ∷ c.in-Some.rest.now ≡ 124 ∷ behind = sym c.in-Some.ensures.cases.0 ∙ spans.1 in
    c.if-first-ne124.true (head c.in-Some.first.now 124 c.in-Some.rest.now behind e)
  where
    head : (x y : ℕ) (xs ys : List ℕ) → x ∷ xs ≡ y ∷ ys → x ≡ y
    head x y xs ys e = cc
