use Rattle.std.proofs.Common.{rules, ◌≡◌, ◌∙◌, List, ℕ, length, ap, sym, subst, arith, ◌/◌}
use Rattle.litmus_syntax.specs.Limits.{IsWithinLimits}
use Rattle.model_library.specs.Generated.{begun, words_of, generated_calls, generated_pred}
use Rattle.model_library.proofs.Limited.{words_length, within_limits, is_generated}
use Rattle.model_library.proofs.generating.make.Goals as goal

pub make_body-requires : goal.make_body-requires
make_body-requires c =
    let len = ap (λ (words : List ℕ). length words) (c.as_slice.ensures.value ∙ c.in_ok-words.ensures) ∙ words_length (begun c.args.seed) c.args.calls in
    omega (arith, len, c.requires.few)

pub new-requires : goal.new-requires
new-requires c =
    let body : c.in_ok-body.body ≡ generated_calls 1 (words_of (begun c.args.seed) c.args.calls) =
    c.in_ok-body.ensures ∙ ap (generated_calls 1) (c.as_slice.ensures.value ∙ c.in_ok-words.ensures) in
    let pred : c.into_inner-pred.result ≡ generated_pred (c.args.calls / 8) = search rules in
    subst IsWithinLimits
    (sym (is_generated c.args.seed c.args.calls c.in_ok-name.name c.in_ok-setup.setup c.in_ok-body.body c.into_inner-pred.result c.in_ok-name.ensures c.in_ok-setup.ensures body pred))
    (within_limits c.args.seed c.args.calls c.requires.few)

pub returns : goal.returns
returns c =
    let body : c.in_ok-body.body ≡ generated_calls 1 (words_of (begun c.args.seed) c.args.calls) =
    c.in_ok-body.ensures ∙ ap (generated_calls 1) (c.as_slice.ensures.value ∙ c.in_ok-words.ensures) in
    let pred : c.into_inner-pred.result ≡ generated_pred (c.args.calls / 8) = search rules in
    c.new.ensures
    ∙ is_generated c.args.seed c.args.calls c.in_ok-name.name c.in_ok-setup.setup c.in_ok-body.body c.into_inner-pred.result c.in_ok-name.ensures c.in_ok-setup.ensures body pred
