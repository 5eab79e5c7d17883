-- A question is answered alike with the events that are left out and without them.
use Rattle.std.proofs.Common.{◌≡◌, ◌↔◌, ℕ, List, length, Bool, sym, ◌∙◌, ap}
use Rattle.litmus_syntax.specs.declared.pred.Pred.{Pred}
use Rattle.fer_events.specs.declared.event.Event.{Event}
use Rattle.fer_events.specs.declared.event.Crash.{Crash}
use Rattle.fer_events.specs.Orders.{IsCrash}
use Rattle.fer_events.specs.States.{start_state, after_crash}
use Rattle.fer_events.specs.Tables.{Trace}
use Rattle.fer_events.specs.Truth.{truth}
use Rattle.fer_events.specs.Witness.{IsWitness}
use Rattle.fer_events.specs.Lifting.{lifted_pairs}
use Rattle.sync_parts.specs.Parts.{crash_without}
use Rattle.sync_parts.specs.Without.{IsWithout, ArePairsOf, KeepsAll, crash_among}
use Rattle.sync_parts.proofs.Leaving.{crash-without, after-without}
use Rattle.sync_parts.proofs.Among.{crash-among, among-without, keeps-lifted}

-- the state after a crash, without what is left out
same-state :
    (places : List ℕ) (t : Trace) (small : List Event) (kept : List (ℕ × ℕ)) (crash : Crash) → IsWithout places t.events small
    → IsCrash t.events kept crash → after_crash (record t { events = small }) (crash_without places crash) ≡ after_crash t crash
same-state places t small kept crash w c = sym (after-without places t.events small w kept crash c (start_state t))

same-truth :
    (places : List ℕ) (t : Trace) (small : List Event) (kept : List (ℕ × ℕ)) (pred : Pred) (crash : Crash) → IsWithout places t.events small
    → IsCrash t.events kept crash → truth (record t { events = small }) (after_crash (record t { events = small }) (crash_without places crash)) pred ≡ truth t (after_crash t crash) pred
same-truth places t small kept pred crash w c = ap (λ s. truth t s pred) (same-state places t small kept crash w c)

pub witness-without :
    (places : List ℕ) (t : Trace) (small : List Event) (kept_large kept_small : List (ℕ × ℕ)) (pred : Pred) (want : Bool) (crash : Crash)
    → IsWithout places t.events small → ArePairsOf (length small) kept_small → KeepsAll places kept_small kept_large
    → IsWitness t kept_large pred want crash → IsWitness (record t { events = small }) kept_small pred want (crash_without places crash)
witness-without places t small kept_large kept_small pred want crash w range keeps h = record {
  crashes = crash-without places t.events small w kept_large kept_small crash range keeps h.crashes;
  answers = same-truth places t small kept_large pred crash w h.crashes ∙ h.answers;
}

pub same-witnesses :
    (places : List ℕ) (t : Trace) (small : List Event) (kept : List (ℕ × ℕ)) (pred : Pred) (want : Bool)
    → IsWithout places t.events small → ArePairsOf (length small) kept
    → ((crash : Crash) × IsWitness (record t { events = small }) kept pred want crash) ↔ ((more : Crash) × IsWitness t (lifted_pairs places kept) pred want more)
same-witnesses places t small kept pred want w range = (
  λ found.
      let more : Crash = crash_among places (length t.events) found.0 in
      let c = crash-among places t.events small w kept found.0 found.1.crashes in
      let back = among-without places t.events small w kept found.0 found.1.crashes in (
        more,
        record {
          crashes = c;
          answers = sym (same-truth places t small (lifted_pairs places kept) pred more w c) ∙ ap (λ d. truth (record t { events = small }) (after_crash (record t { events = small }) d) pred) back ∙ found.1.answers;
        },
      ),
  λ found. (crash_without places found.0, witness-without places t small (lifted_pairs places kept) kept pred want found.0 w range (keeps-lifted places t.events small w kept) found.1),
)
