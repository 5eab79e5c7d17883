-- The sequential model keeps every pair of events in program order.
use Rattle.std.proofs.Common.{◌≡◌, ℕ, ◌-◌, ◌≤◌, ◌<◌, true, List, [], ◌∷◌, length, get_or, refl, ap, subst, arith}
use Rattle.std.proofs.lemmas.Bool.Decides.{nat_tests}
use Rattle.std.proofs.lemmas.Option.{slice_get-get_or}
use Rattle.fer_events.specs.declared.event.Event.{Event}
use Rattle.fer_events.specs.Orders.{IsEvent, all_pairs}
use Rattle.fer_events.specs.Pairs.{PairList, has_pair}
use Rattle.model_library.specs.declared.texts.ShippedModel.TheVariants.{Sequential}
use Rattle.model_library.specs.ShippedModels.{shipped_text}
use Rattle.model_reader.specs.declared.expr.Expr.TheVariants.{Po}
use Rattle.model_reader.specs.declared.model.Model.{Model}
use Rattle.model_reader.specs.ModelText.{IsModelText}
use Rattle.event_relations.specs.Kept.{IsKept}
use Rattle.event_relations.specs.Words.Relates.{earlier}
use Rattle.event_relations.specs.Meaning.Means.{word}
use Rattle.event_relations.proofs.Within.{kept_within}
use Rattle.fer_events.proofs.PairLaws.{has_self, has_only}
use Rattle.sync_repair.specs.Sets.{AreKept}
use Rattle.ferrite_run.proofs.PairsOfAll.{is_forward, all_forward}
use Rattle.ferrite_run.proofs.Single.{same_truth}
use Rattle.ferrite_run.proofs.SequentialText.{program_order_model, is_read}

event_of : (events : List Event) (a : ℕ) → 1 ≤ a → a ≤ length events → (e : Event) × IsEvent events a e
event_of [] a some within = absurd (omega arith)
event_of (d ∷ ds) a some within = (get_or (d ∷ ds) (a - 1) d, (omega arith, slice_get-get_or (d ∷ ds) (a - 1) d (omega arith)))

all_kept : (events : List Event) (a b : ℕ) → 1 ≤ a → a < b → b ≤ length events → IsKept program_order_model events a b
all_kept events a b some less within =
    let (e, at) = event_of events a some (omega arith) in
    let (f, behind) = event_of events b (omega arith) within in
    (0, (Po, refl, less, word Po a b e f at behind (earlier less)))

forward_true : (n a b : ℕ) → 1 ≤ a → a < b → b ≤ n → is_forward n n a b ≡ true
forward_true n a b some less within = grind (arith, nat_tests)

forward_first : (n a b : ℕ) → is_forward n n a b ≡ true → 1 ≤ a
forward_first n a b e = grind (arith, nat_tests)

forward_less : (n a b : ℕ) → is_forward n n a b ≡ true → a < b
forward_less n a b e = grind (arith, nat_tests)

forward_within : (n a b : ℕ) → is_forward n n a b ≡ true → b ≤ n
forward_within n a b e = grind (arith, nat_tests)

program_order_keeps : (events : List Event) (pairs : PairList) → AreKept program_order_model events pairs → pairs.pairs ≡ all_pairs (length events)
program_order_keeps events pairs kept =
    let n = length events in
    let has : (x y : ℕ) → has_pair pairs.pairs x y ≡ is_forward n n x y =
    λ x y. same_truth (has_pair pairs.pairs x y) (is_forward n n x y)
    (λ e. let (some, less, within) = kept_within program_order_model events x y ((kept.exactly x y).0 (has_only pairs.pairs x y e)) in forward_true n x y some less within)
    (λ e. has_self pairs.pairs (x, y) ((kept.exactly x y).1 (all_kept events x y (forward_first n x y e) (forward_less n x y e) (forward_within n x y e)))) in
    ap (λ (p : PairList). p.pairs) (all_forward pairs n kept.counted kept.listed has)

pub sequential_keeps :
    ((bytes : List ℕ) (a b : Model) → IsModelText bytes a → IsModelText bytes b → a ≡ b)
    → (model : Model) (events : List Event) (pairs : PairList) → IsModelText (shipped_text Sequential) model → AreKept model events pairs
    → pairs.pairs ≡ all_pairs (length events)
sequential_keeps one model events pairs is kept =
    program_order_keeps events pairs
    (subst (λ (m : Model). AreKept m events pairs) (one (shipped_text Sequential) model program_order_model is is_read) kept)
