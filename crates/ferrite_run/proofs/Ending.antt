-- From what is said, kept and written to the end of a run.
use Rattle.std.proofs.Common.{◌≡◌, ◌<◌, ◌≤◌, ◌⊎◌, inl, inr, ℕ, List, Option, subst, arith}
use Rattle.fer_outside.specs.Held.{Held}
use Rattle.fer_outside.specs.Causes.{Rose}
use Rattle.command_line.specs.declared.commands.Command.{Command}
use Rattle.ferrite_run.specs.declared.saying.Said.{Said}
use Rattle.ferrite_run.specs.Done.{Done}
use Rattle.ferrite_run.specs.Saying.{Says}
use Rattle.ferrite_run.specs.Answers.{IsAnswer, Asks, IsFileOf, KeepsUnder}
use Rattle.ferrite_run.specs.Delivering.{IsWhole, IsCutShort}
use Rattle.ferrite_run.specs.Delivered.{IsDelivered}
use Rattle.ferrite_run.proofs.Asked.{rose_before}
use Rattle.ferrite_run.proofs.Calm.{answer_more}
use Rattle.ferrite_run.proofs.Keeping.{answer_keeps}
use Rattle.ferrite_run.proofs.Delivery.{delivered_whole, delivered_cut, delivered_wanting, delivered_known, delivered_calm, same_faults}

-- how a run ends, by what was held and written before and after
pub record Ends
    (told after : Option Held) (rose : List ℕ → Type 0) (before now : Option (List ℕ)) (write_fault untouched : Type 0) (words choices : List (List ℕ)) (faults later : List ℕ → ℕ) (status : ℕ) : Type 0
  where
    pub answered : status < 8 → (done : Done) × IsAnswer told rose words choices done × IsWhole told after before now done status
    pub cut_short : status ≡ 8 → (done : Done) × IsAnswer told rose words choices done × IsCutShort told after rose before now write_fault done
    pub wanting : status ≡ 9 → (after ≡ told) × untouched
    pub complete :
        ((command : Command) (name : List ℕ) → Asks words choices command → IsFileOf command name ⊎ KeepsUnder command name → rose name → ⊥) → (write_fault → ⊥)
        → (status ≡ 9) ⊎ ((done : Done) × IsAnswer told (λ name. ⊥) words choices done × IsWhole told after before now done status)
    pub known : status ≤ 9
    pub stay : (name : List ℕ) → faults name ≤ later name

pub runs :
    (told mid after : Option Held) (faults between later : List ℕ → ℕ) (before now : Option (List ℕ)) (write_fault untouched : Type 0) (words choices : List (List ℕ)) (said : Said) (done : Done) (status : ℕ)
    → mid ≡ told → ((name : List ℕ) → faults name ≤ between name) → ((name : List ℕ) → between name ≤ later name)
    → IsAnswer told (λ name. Rose (faults name) (between name)) words choices done → Says said done
    → IsDelivered mid after (λ name. Rose (between name) (later name)) before now write_fault untouched said status
    → Ends told after (λ name. Rose (faults name) (later name)) before now write_fault untouched words choices faults later status
runs told mid after faults between later before now write_fault untouched words choices said done status stays first second is says delivered =
    let early : List ℕ → Type 0 = λ name. Rose (faults name) (between name) in
    let rose : List ℕ → Type 0 = λ name. Rose (faults name) (later name) in
    let here : IsDelivered told after rose before now write_fault untouched said status =
    same_faults told after (λ name. Rose (between name) (later name)) rose before now write_fault untouched said status (λ name r. rose_before (faults name) (between name) (later name) (first name) r)
    (subst (λ t. IsDelivered t after (λ name. Rose (between name) (later name)) before now write_fault untouched said status) stays delivered) in
    let answer : IsAnswer told rose words choices done = answer_more told early rose words choices done (λ command name asks file r. omega (arith, r, second name)) is in
    record {
      answered = λ below. (done, answer, delivered_whole told after rose before now write_fault untouched said done says status here below);
      cut_short = λ at. (done, answer, delivered_cut told after rose before now write_fault untouched said done says status here at);
      wanting = delivered_wanting told after rose before now write_fault untouched said done says status here;
      complete = λ calm written.
          let quiet : IsAnswer told (λ name. ⊥) words choices done = answer_more told rose (λ name. ⊥) words choices done (λ command name asks file r. calm command name asks (inl file) r) answer in
          elim (delivered_calm told after rose before now write_fault untouched said done says status written
          (λ name bytes kept r. let (command, asks, under) = answer_keeps told rose words choices done answer name bytes kept in calm command name asks (inr under) r) here) [
            | inl nine ↦ inl nine
            | inr whole ↦ inr (done, quiet, whole)
          ];
      known = delivered_known told after rose before now write_fault untouched said done says status here;
      stay = λ name. omega (arith, first name, second name);
    }
