use Rattle.std.proofs.Common.{◌≡◌, ℕ, List, Option, ◌≤◌, All, IsTrue, length, sym, ◌∙◌, ap, subst}
use Rattle.fer_events.specs.declared.tables.AttrValue.{AttrValue}
use Rattle.fer_events.specs.Tables.{IsTrace}
use Rattle.litmus_syntax.specs.Sites.{with_sites}
use Rattle.litmus_syntax.specs.CallKinds.{sync_free}
use Rattle.litmus_syntax.specs.Forms.{is_formed_call}
use Rattle.litmus_syntax.specs.Transactions.{calls_of}
use Rattle.litmus_syntax.specs.declared.call.Step.{Step}
use Rattle.call_events.specs.declared.files.Files.{Files}
use Rattle.call_events.specs.declared.making.Sizes.{Sizes}
use Rattle.call_events.specs.Asking.{asked}
use Rattle.call_events.specs.Resolved.{start_of, trace_from}
use Rattle.call_events.specs.Small.{IsCutting}
use Rattle.call_events.proofs.Closing.{closed, body_refuses}
use Rattle.call_events.proofs.Limits.{body_is_formed, sizes_cut}
use Rattle.call_events.proofs.Tracing.{rules_hold}
use Rattle.call_events.proofs.resolving.resolve_body.Goals as goal

pub run_body-requires-clause-few : goal.run_body-requires-clause-few
run_body-requires-clause-few c =
    let litmus = c.args.litmus.now in
    let whole : c.as_slice-4.result.now ≡ with_sites 1 litmus.body c.args.sites.now =
    c.as_slice-4.ensures ∙ c.in_ok-body.ensures ∙ ap (λ (b : List Step). with_sites 1 b c.args.sites.now) c.body.ensures in
    let P : List Step → Type 0 = λ body. length (sync_free (calls_of body)) ≤ 128 in
    subst P (sym whole) (c.inserted_within_limits.ensures litmus c.args.sites.now c.requires.syncs c.requires.outside c.keeps_limits.ensures).few_body

pub run_body-requires-clause-body : goal.run_body-requires-clause-body
run_body-requires-clause-body c =
    let litmus = c.args.litmus.now in
    let whole : c.as_slice-4.result.now ≡ with_sites 1 litmus.body c.args.sites.now =
    c.as_slice-4.ensures ∙ c.in_ok-body.ensures ∙ ap (λ (b : List Step). with_sites 1 b c.args.sites.now) c.body.ensures in
    let P : List Step → Type 0 = λ body. All (λ step. IsTrue (is_formed_call step.call)) body in
    subst P (sym whole) (body_is_formed (record litmus { body = with_sites 1 litmus.body c.args.sites.now }) (c.inserted_within_limits.ensures litmus c.args.sites.now c.requires.syncs c.requires.outside c.keeps_limits.ensures))

pub run_body-requires-clause-cuts : goal.run_body-requires-clause-cuts
run_body-requires-clause-cuts c =
    let sizes : ℕ → ℕ → Sizes = λ block sector. record { block = block; sector = sector } in
    subst (λ (b : ℕ). IsCutting (sizes b c.sector.result)) (sym c.block.ensures)
    (subst (λ (s : ℕ). IsCutting (sizes c.args.litmus.now.block s)) (sym c.sector.ensures) (sizes_cut c.args.litmus.now c.keeps_limits.ensures))

pub ask_and_close-requires-clause-rules : goal.ask_and_close-requires-clause-rules
ask_and_close-requires-clause-rules c = λ accepted formed.
    let files = c.args.files in
    let p = c.in-Ok.progress in
    let s : Files = asked p.files c.args.litmus.now.pred in
    let held : c.as_slice-5.result.now ≡ files.held = c.as_slice-5.ensures ∙ c.in_ok-held.ensures ∙ c.as_slice.ensures in
    let contents : c.in_ok-contents.contents ≡ files.contents = c.in_ok-contents.ensures ∙ c.as_slice-2.ensures in
    let attrs : c.in_ok-attrs.attrs ≡ files.attrs = c.in_ok-attrs.ensures ∙ c.as_slice-3.ensures in
    let P : List (Option ℕ) → List (List ℕ) → List AttrValue → Type 0 = λ h t a. IsTrace (trace_from (start_of h t a s) s p.events) in
    subst (λ (h : List (Option ℕ)). P h c.in_ok-contents.contents c.in_ok-attrs.attrs) (sym held)
    (subst (λ (t : List (List ℕ)). P files.held t c.in_ok-attrs.attrs) (sym contents)
    (subst (λ (a : List AttrValue). P files.held files.contents a) (sym attrs)
    (rules_hold files p c.args.litmus.now.pred c.requires.small c.requires.whole c.in-Ok.ensures.run c.in-Ok.ensures.traced accepted formed)))

pub returns : goal.returns
returns c =
    let files = c.args.files in
    let held : c.as_slice-5.result.now ≡ files.held = c.as_slice-5.ensures ∙ c.in_ok-held.ensures ∙ c.as_slice.ensures in
    let contents : c.in_ok-contents.contents ≡ files.contents = c.in_ok-contents.ensures ∙ c.as_slice-2.ensures in
    let attrs : c.in_ok-attrs.attrs ≡ files.attrs = c.in_ok-attrs.ensures ∙ c.as_slice-3.ensures in
    let sizes : ℕ → ℕ → Sizes = λ block sector. record { block = block; sector = sector } in
    closed c.args.litmus.now c.args.sites.now files c.in-Ok.progress (sizes c.block.result c.sector.result) c.as_slice-4.result.now c.as_slice-5.result.now c.in_ok-contents.contents c.in_ok-attrs.attrs c.ask_and_close.result
    (ap (λ (b : ℕ). sizes b c.sector.result) c.block.ensures ∙ ap (λ (s : ℕ). sizes c.args.litmus.now.block s) c.sector.ensures)
    (c.as_slice-4.ensures ∙ c.in_ok-body.ensures ∙ ap (λ (b : List Step). with_sites 1 b c.args.sites.now) c.body.ensures)
    c.in-Ok.ensures.answer held contents attrs c.ask_and_close.ensures

pub returns-in-Err : goal.returns-in-Err
returns-in-Err c =
    let sizes : ℕ → ℕ → Sizes = λ block sector. record { block = block; sector = sector } in
    body_refuses c.args.litmus.now c.args.sites.now c.args.files (sizes c.block.result c.sector.result) c.as_slice-4.result.now c.in-Err.fault
    (ap (λ (b : ℕ). sizes b c.sector.result) c.block.ensures ∙ ap (λ (s : ℕ). sizes c.args.litmus.now.block s) c.sector.ensures)
    (c.as_slice-4.ensures ∙ c.in_ok-body.ensures ∙ ap (λ (b : List Step). with_sites 1 b c.args.sites.now) c.body.ensures)
    c.in-Err.ensures.answer
