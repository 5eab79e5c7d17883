-- A body's calls are few: at most 128 aren't syncs, and each sync makes an event.
use Rattle.std.proofs.Common.{◌≡◌, ℕ, ◌+◌, ◌<◌, ◌≤◌, Bool, true, false, not, if◌then◌else◌, List, [], ◌∷◌, length, map, drop, get_or, ◌∙◌, ap, arith, length-append}
use Rattle.litmus_syntax.specs.declared.call.Call.{Call}
use Rattle.litmus_syntax.specs.declared.call.Call.TheVariants.{Mkdir, Create, Write, Append, Truncate, Link, Unlink, Rename, Attr, Fsync, FsyncDir, Sync, Mark, Begin, Commit}
use Rattle.litmus_syntax.specs.declared.call.Step.{Step}
use Rattle.litmus_syntax.specs.CallKinds.{is_sync, sync_free}
use Rattle.call_events.specs.declared.files.Progress.{Progress}
use Rattle.call_events.specs.declared.making.Sizes.{Sizes}
use Rattle.call_events.specs.Running.{events_next, after_call}
use Rattle.call_events.proofs.Walking.{next_step}

-- how many calls aren't syncs
abbrev pub changes : List Step → ℕ
changes steps = length (sync_free (map (λ step. step.call) steps))

-- a call isn't a sync, or makes an event
counts_somewhere : (sizes : Sizes) (number : ℕ) (p : Progress) (call : Call) → 1 ≤ length (sync_free (call ∷ [])) + length (events_next sizes number p call)
counts_somewhere sizes number p (Mkdir path) = omega arith
counts_somewhere sizes number p (Create path) = omega arith
counts_somewhere sizes number p (Write path at text) = omega arith
counts_somewhere sizes number p (Append path text) = omega arith
counts_somewhere sizes number p (Truncate path size) = omega arith
counts_somewhere sizes number p (Link from to) = omega arith
counts_somewhere sizes number p (Unlink path) = omega arith
counts_somewhere sizes number p (Rename from to) = omega arith
counts_somewhere sizes number p (Attr path key value) = omega arith
counts_somewhere sizes number p (Fsync path) = omega arith
counts_somewhere sizes number p (FsyncDir path) = omega arith
counts_somewhere sizes number p Sync = omega arith
counts_somewhere sizes number p Begin = omega arith
counts_somewhere sizes number p Commit = omega arith
counts_somewhere sizes number p (Mark word) = omega arith

first_counted : (b : Bool) (call : Call) (calls : List Call) → length (if b then call ∷ calls else calls) ≡ length (if b then call ∷ [] else []) + length calls
first_counted true call calls = omega arith
first_counted false call calls = omega arith

-- so the place in the body stays below the calls that aren't syncs and the events
pub few_more : (sizes : Sizes) (number : ℕ) (p : Progress) (body : List Step) (i : ℕ) (step : Step) → i < length body → step ≡ get_or body i step
    → i + changes (drop i body) ≤ changes body + length p.events
    → (i + 1) + changes (drop (i + 1) body) ≤ changes body + length (after_call sizes number p step.call).events
few_more sizes number p body i step there is few =
    let calls : List Call = map (λ step. step.call) (drop (i + 1) body) in
    let cut : changes (drop i body) ≡ length (sync_free (step.call ∷ [])) + length (sync_free calls) =
    ap changes (next_step body i step there is) ∙ first_counted (not (is_sync step.call)) step.call (sync_free calls) in
    omega (arith, few, cut, counts_somewhere sizes number p step.call, length-append p.events (events_next sizes number p step.call))
