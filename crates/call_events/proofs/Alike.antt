-- Tests that are the same but for their lines leave the same events.
use Rattle.std.proofs.Common.{◌≡◌, ℕ, ◌+◌, List, [], ◌∷◌, ◌++◌, map, filter, ◌==◌, Option, Some, None, Result, Ok, Err, refl, sym, ◌∙◌, ap, subst, inl, inr}
use Rattle.std.proofs.lemmas.List.{map-append}
use Rattle.litmus_syntax.specs.Test.{Test}
use Rattle.litmus_syntax.specs.Same.{IsSameTest}
use Rattle.litmus_syntax.specs.Sites.{inserted_at, with_sites}
use Rattle.litmus_syntax.specs.Transactions.{calls_of}
use Rattle.litmus_syntax.specs.declared.call.Call.{Call}
use Rattle.litmus_syntax.specs.declared.call.Step.{Step}
use Rattle.litmus_syntax.specs.declared.pred.Pred.{Pred}
use Rattle.litmus_syntax.specs.declared.site.Site.{Site}
use Rattle.fer_events.specs.Tables.{Trace}
use Rattle.call_events.specs.declared.files.Files.{Files}
use Rattle.call_events.specs.declared.files.Progress.{Progress}
use Rattle.call_events.specs.declared.making.Sizes.{Sizes}
use Rattle.call_events.specs.declared.call_kind.CallKind.{CallKind}
use Rattle.call_events.specs.declared.call_kind.CallFault.{CallFault}
use Rattle.call_events.specs.declared.call_kind.CallFault.TheVariants.{Refused}
use Rattle.call_events.specs.Refusals.{refusal}
use Rattle.call_events.specs.Found.{no_files}
use Rattle.call_events.specs.Running.{unless_refused, after_setup_call, run_setup, after_call, body_refusal, run_body, begun}
use Rattle.call_events.specs.Asking.{asked, question_refusal}
use Rattle.call_events.specs.Resolved.{trace_of, sizes_of, asked_of, body_of, resolved}
use Rattle.call_events.proofs.Outcomes.{setup_decided, run_decided}

-- what isn't refused is the same whatever the line
unless_same : {X : Type 0} (o : Option CallKind) (i j : ℕ) (a b : Result X CallFault) (x : X) → (a ≡ Ok x → b ≡ Ok x) → unless_refused o i a ≡ Ok x → unless_refused o j b ≡ Ok x
unless_same None i j a b x same h = same h
unless_same (Some kind) i j a b x same h = cc

first_call : (c d : Call) (cs ds : List Call) → c ∷ cs ≡ d ∷ ds → c ≡ d
first_call c d cs ds h = cc

other_calls : (c d : Call) (cs ds : List Call) → c ∷ cs ≡ d ∷ ds → cs ≡ ds
other_calls c d cs ds h = cc

setup_same : (s t : Files) (xs ys : List Step) → calls_of xs ≡ calls_of ys → run_setup s xs ≡ Ok t → run_setup s ys ≡ Ok t
setup_same s t [] [] calls h = h
setup_same s t [] (y ∷ ys) calls h = cc
setup_same s t (x ∷ xs) [] calls h = cc
setup_same s t (x ∷ xs) (y ∷ ys) calls h =
    let call : x.call ≡ y.call = first_call x.call y.call (calls_of xs) (calls_of ys) calls in
    let rest : calls_of xs ≡ calls_of ys = other_calls x.call y.call (calls_of xs) (calls_of ys) calls in
    let one : unless_refused (refusal s x.call) y.line (run_setup (after_setup_call s x.call) ys) ≡ Ok t =
    unless_same (refusal s x.call) x.line y.line (run_setup (after_setup_call s x.call) xs) (run_setup (after_setup_call s x.call) ys) t
    (setup_same (after_setup_call s x.call) t xs ys rest) h in
    subst (λ (c : Call). unless_refused (refusal s c) y.line (run_setup (after_setup_call s c) ys) ≡ Ok t) call one

run_same : (sizes : Sizes) (number : ℕ) (p q : Progress) (xs ys : List Step) → calls_of xs ≡ calls_of ys → run_body sizes number p xs ≡ Ok q → run_body sizes number p ys ≡ Ok q
run_same sizes number p q [] [] calls h = h
run_same sizes number p q [] (y ∷ ys) calls h = cc
run_same sizes number p q (x ∷ xs) [] calls h = cc
run_same sizes number p q (x ∷ xs) (y ∷ ys) calls h =
    let call : x.call ≡ y.call = first_call x.call y.call (calls_of xs) (calls_of ys) calls in
    let rest : calls_of xs ≡ calls_of ys = other_calls x.call y.call (calls_of xs) (calls_of ys) calls in
    let after : Progress = after_call sizes number p x.call in
    let one : unless_refused (body_refusal sizes number p x.call) y.line (run_body sizes (number + 1) after ys) ≡ Ok q =
    unless_same (body_refusal sizes number p x.call) x.line y.line (run_body sizes (number + 1) after xs) (run_body sizes (number + 1) after ys) q
    (run_same sizes (number + 1) after q xs ys rest) h in
    subst (λ (c : Call). unless_refused (body_refusal sizes number p c) y.line (run_body sizes (number + 1) (after_call sizes number p c) ys) ≡ Ok q) call one

lines_apart : (i j : ℕ) (sites : List Site) → calls_of (map (λ (site : Site). record { line = i; call = site.call }) sites) ≡ calls_of (map (λ (site : Site). record { line = j; call = site.call }) sites)
lines_apart i j [] = refl
lines_apart i j (site ∷ sites) = ap (λ (cs : List Call). site.call ∷ cs) (lines_apart i j sites)

sites_same : (number : ℕ) (xs ys : List Step) (sites : List Site) → calls_of xs ≡ calls_of ys → calls_of (with_sites number xs sites) ≡ calls_of (with_sites number ys sites)
sites_same number [] [] sites calls = refl
sites_same number [] (y ∷ ys) sites calls = cc
sites_same number (x ∷ xs) [] sites calls = cc
sites_same number (x ∷ xs) (y ∷ ys) sites calls =
    let call : x.call ≡ y.call = first_call x.call y.call (calls_of xs) (calls_of ys) calls in
    let rest = sites_same (number + 1) xs ys sites (other_calls x.call y.call (calls_of xs) (calls_of ys) calls) in
    let added = lines_apart x.line y.line (filter (λ site. site.after == number) sites) in
    ap (λ (cs : List Call). x.call ∷ cs)
    (map-append (λ (s : Step). s.call) (inserted_at number x.line sites) (with_sites (number + 1) xs sites)
    ∙ ap (λ (cs : List Call). cs ++ calls_of (with_sites (number + 1) xs sites)) added
    ∙ ap (λ (cs : List Call). calls_of (inserted_at number y.line sites) ++ cs) rest
    ∙ sym (map-append (λ (s : Step). s.call) (inserted_at number y.line sites) (with_sites (number + 1) ys sites)))
    ∙ ap (λ (c : Call). c ∷ calls_of (inserted_at number y.line sites ++ with_sites (number + 1) ys sites)) call

sizes_same : (l m : Test) → IsSameTest l m → sizes_of l ≡ sizes_of m
sizes_same l m same =
    let sizes : ℕ → ℕ → Sizes = λ block sector. record { block = block; sector = sector } in
    ap (λ (b : ℕ). sizes b l.sector) same.block ∙ ap (λ (s : ℕ). sizes m.block s) same.sector

question_same : (l m : Test) (setup : Files) (p : Progress) (t : Trace) → IsSameTest l m → asked_of l setup (Ok p) ≡ Ok t → asked_of m setup (Ok p) ≡ Ok t
question_same l m setup p t same h =
    let gives : Pred → ℕ → Result Trace CallFault = λ pred line. unless_refused (question_refusal p.files pred) line (Ok (trace_of setup (asked p.files pred) p.events)) in
    let one : gives l.pred m.pred_line ≡ Ok t = unless_same (question_refusal p.files l.pred) l.pred_line m.pred_line _ _ t (λ e. e) h in
    ap (λ (pred : Pred). gives pred m.pred_line) (sym same.pred) ∙ one

body_same : (l m : Test) (sites : List Site) (setup : Files) (t : Trace) → IsSameTest l m → body_of l sites (Ok setup) ≡ Ok t → body_of m sites (Ok setup) ≡ Ok t
body_same l m sites setup t same h = elim (run_decided (sizes_of l) 1 (begun setup) (with_sites 1 l.body sites)) [
  | inl left ↦
      let asks : asked_of l setup (Ok left.0) ≡ Ok t = ap (asked_of l setup) (sym left.1) ∙ h in
      let ran : run_body (sizes_of m) 1 (begun setup) (with_sites 1 m.body sites) ≡ Ok left.0 =
      ap (λ (sizes : Sizes). run_body sizes 1 (begun setup) (with_sites 1 m.body sites)) (sym (sizes_same l m same))
      ∙ run_same (sizes_of l) 1 (begun setup) left.0 (with_sites 1 l.body sites) (with_sites 1 m.body sites) (sites_same 1 l.body m.body sites same.body) left.1 in
      ap (asked_of m setup) ran ∙ question_same l m setup left.0 t same asks
  | inr refused ↦ let bad : asked_of l setup (Err (Refused refused.0 refused.1)) ≡ Ok t = ap (asked_of l setup) (sym refused.2) ∙ h in cc
]

-- tests that are the same but for their lines have the same events
pub same_events : (l m : Test) (sites : List Site) (t : Trace) → IsSameTest l m → resolved l sites ≡ Ok t → resolved m sites ≡ Ok t
unfolding resolved
same_events l m sites t same h = elim (setup_decided no_files l.setup) [
  | inl left ↦
      let there : body_of l sites (Ok left.0) ≡ Ok t = ap (body_of l sites) (sym left.1) ∙ h in
      ap (body_of m sites) (setup_same no_files left.0 l.setup m.setup same.setup left.1) ∙ body_same l m sites left.0 t same there
  | inr refused ↦ let bad : body_of l sites (Err (Refused refused.0 refused.1)) ≡ Ok t = ap (body_of l sites) (sym refused.2) ∙ h in cc
]

-- the version of the grammar has no part in it
pub upgraded : (litmus : Test) (sites : List Site) → resolved (record litmus { version = 2 }) sites ≡ resolved litmus sites
unfolding resolved
upgraded litmus sites = refl
