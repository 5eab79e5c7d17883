-- From what a body left to the answer for the whole test.
use Rattle.std.proofs.Common.{◌≡◌, ℕ, List, Option, Result, Ok, Err, IfOk, IfErr, sym, ◌∙◌, ap, subst}
use Rattle.litmus_syntax.specs.Test.{Test}
use Rattle.litmus_syntax.specs.declared.call.Step.{Step}
use Rattle.litmus_syntax.specs.declared.site.Site.{Site}
use Rattle.litmus_syntax.specs.Sites.{with_sites}
use Rattle.fer_events.specs.declared.tables.AttrValue.{AttrValue}
use Rattle.fer_events.specs.Tables.{Trace}
use Rattle.call_events.specs.declared.files.Files.{Files}
use Rattle.call_events.specs.declared.files.Progress.{Progress}
use Rattle.call_events.specs.declared.making.Sizes.{Sizes}
use Rattle.call_events.specs.declared.call_kind.CallFault.{CallFault}
use Rattle.call_events.specs.declared.call_kind.CallFault.TheVariants.{Refused, OutOfMemory}
use Rattle.call_events.specs.Found.{no_files}
use Rattle.call_events.specs.Running.{unless_refused, run_setup, run_body, begun}
use Rattle.call_events.specs.Asking.{asked, question_refusal}
use Rattle.call_events.specs.Resolved.{start_of, trace_from, sizes_of, asked_of, body_of, resolved, HasEvents, IsFaultOf, IsAnswerFor}

-- the answer for what the body left is that for the test
pub closed : (litmus : Test) (sites : List Site) (files : Files) (p : Progress) (sizes : Sizes) (body : List Step) (held : List (Option ℕ)) (contents : List (List ℕ)) (attrs : List AttrValue) (result : Result Trace CallFault)
    → sizes ≡ sizes_of litmus → body ≡ with_sites 1 litmus.body sites → run_body sizes 1 (begun files) body ≡ Ok p
    → held ≡ files.held → contents ≡ files.contents → attrs ≡ files.attrs
    → IsAnswerFor (unless_refused (question_refusal p.files litmus.pred) litmus.pred_line (Ok (trace_from (start_of held contents attrs (asked p.files litmus.pred)) (asked p.files litmus.pred) p.events))) result
    → IsAnswerFor (body_of litmus sites (Ok files)) result
closed litmus sites files p sizes body held contents attrs result blocks bodies ran helds conts attrss answer =
    let s : Files = asked p.files litmus.pred in
    let asks : List (Option ℕ) → List (List ℕ) → List AttrValue → Result Trace CallFault =
    λ h c a. unless_refused (question_refusal p.files litmus.pred) litmus.pred_line (Ok (trace_from (start_of h c a s) s p.events)) in
    let whole : run_body (sizes_of litmus) 1 (begun files) (with_sites 1 litmus.body sites) ≡ Ok p =
    ap (λ (b : Sizes). run_body b 1 (begun files) (with_sites 1 litmus.body sites)) (sym blocks)
    ∙ ap (λ (b : List Step). run_body sizes 1 (begun files) b) (sym bodies)
    ∙ ran in
    let same : asks held contents attrs ≡ body_of litmus sites (Ok files) =
    ap (λ (h : List (Option ℕ)). asks h contents attrs) helds
    ∙ ap (λ (c : List (List ℕ)). asks files.held c attrs) conts
    ∙ ap (λ (a : List AttrValue). asks files.held files.contents a) attrss
    ∙ ap (asked_of litmus files) (sym whole) in
    let P : Result Trace CallFault → Type 0 = λ right. IsAnswerFor right result in
    subst P same answer

-- a body that is refused refuses the test
pub body_refuses : (litmus : Test) (sites : List Site) (files : Files) (sizes : Sizes) (body : List Step) (fault : CallFault)
    → sizes ≡ sizes_of litmus → body ≡ with_sites 1 litmus.body sites → IsAnswerFor (run_body sizes 1 (begun files) body) (Err fault)
    → IsAnswerFor {X = Trace} (body_of litmus sites (Ok files)) (Err fault)
body_refuses litmus sites files sizes body OutOfMemory blocks bodies answer = tt
body_refuses litmus sites files sizes body (Refused line kind) blocks bodies answer =
    ap (asked_of litmus files)
    (ap (λ (b : Sizes). run_body b 1 (begun files) (with_sites 1 litmus.body sites)) (sym blocks)
    ∙ ap (λ (b : List Step). run_body sizes 1 (begun files) b) (sym bodies)
    ∙ answer)

pub answer_events : (litmus : Test) (sites : List Site) (result : Result Trace CallFault) → IsAnswerFor (resolved litmus sites) result → IfOk result (λ events. HasEvents litmus sites events)
answer_events litmus sites (Ok events) answer = answer
answer_events litmus sites (Err fault) answer = tt

fault_of : (litmus : Test) (sites : List Site) (fault : CallFault) → IsAnswerFor {X = Trace} (resolved litmus sites) (Err fault) → IsFaultOf litmus sites fault
fault_of litmus sites OutOfMemory answer = tt
fault_of litmus sites (Refused line kind) answer = answer

pub answer_fault : (litmus : Test) (sites : List Site) (result : Result Trace CallFault) → IsAnswerFor (resolved litmus sites) result → IfErr result (λ fault. IsFaultOf litmus sites fault)
answer_fault litmus sites (Ok events) answer = tt
answer_fault litmus sites (Err fault) answer = fault_of litmus sites fault answer

-- the answer for the files that the setup left is that for the test
pub set_up_first : (litmus : Test) (sites : List Site) (setup : List Step) (files : Files) (result : Result Trace CallFault) → setup ≡ litmus.setup → run_setup no_files setup ≡ Ok files
    → IsAnswerFor (body_of litmus sites (Ok files)) result → IsAnswerFor (resolved litmus sites) result
unfolding resolved
set_up_first litmus sites setup files result is ran answer =
    let P : Result Files CallFault → Type 0 = λ r. IsAnswerFor (body_of litmus sites r) result in
    subst P (sym ran ∙ ap (run_setup no_files) is) answer

-- a setup that is refused refuses the test
pub setup_refuses : (litmus : Test) (sites : List Site) (setup : List Step) (fault : CallFault) → setup ≡ litmus.setup → IsAnswerFor {X = Files} (run_setup no_files setup) (Err fault) → IsFaultOf litmus sites fault
unfolding resolved
setup_refuses litmus sites setup OutOfMemory is answer = tt
setup_refuses litmus sites setup (Refused line kind) is answer = ap (body_of litmus sites) (ap (run_setup no_files) (sym is) ∙ answer)
