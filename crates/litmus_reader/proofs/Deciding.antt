-- Each line of a litmus file states something, or has a fault.
use Rattle.std.proofs.Common.{◌≡◌, ◌⊎◌, ℕ, true, false, List, [], ◌∷◌, ◌++◌, length, map, sum, codes, Option, Some, None, IsTrue, refl, sym, ◌∙◌, ap, subst, inl, inr, arith}
use Rattle.std.specs.List.{All}
use Rattle.std.proofs.lemmas.List.Elements.{All-nil}
use Rattle.std.proofs.lemmas.Bool.{cases_Bool, cases_lt, true≢false}
use Rattle.litmus_syntax.specs.declared.call.Call.{Call}
use Rattle.litmus_syntax.specs.declared.call.Step.{Step}
use Rattle.litmus_syntax.specs.CallKinds.{is_sync, is_setup_call, is_body_call}
use Rattle.litmus_syntax.specs.Transactions.{suits}
use Rattle.litmus_syntax.specs.Counts.{atom_words}
use Rattle.litmus_syntax.specs.Test.{Test}
use Rattle.lexeme_reader.specs.declared.reading.Lexeme.{Lexeme}
use Rattle.lexeme_reader.specs.Lexemes.{is_formed}
use Rattle.lexeme_reader.specs.Parentheses.{most_open}
use Rattle.predicate_reader.specs.Counts.{IsShort, text_size, word_count}
use Rattle.litmus_reader.specs.declared.stages.Stage.{Stage}
use Rattle.litmus_reader.specs.declared.stages.Stage.TheVariants.{Start, InSetup, InBody}
use Rattle.litmus_reader.specs.declared.draft.Draft.{Draft}
use Rattle.litmus_reader.specs.declared.draft.Asked.{Asked}
use Rattle.litmus_reader.specs.declared.fault.LitmusKind.{LitmusKind}
use Rattle.litmus_reader.specs.declared.fault.LitmusKind.TheVariants.{BadLine, OutOfOrder, NumberRange, NotHere, BadPredicate, TooLong}
use Rattle.litmus_reader.specs.Stages.{stage_behind}
use Rattle.litmus_reader.specs.Statements.{Statement, Head, Block, Sector, Setup, Body, Called, Question, statement_lexemes, form_of}
use Rattle.litmus_reader.specs.Versions.{version_has}
use Rattle.litmus_reader.specs.Faults.{HasWide, pairs, HaveFault}
use Rattle.line_files.specs.StatedLines.{stated_in, statements}
use Rattle.line_files.specs.FirstFaults.{IsFirst, IsSound}
use Rattle.line_files.specs.Refusals.{IsUnended}
use Rattle.line_files.proofs.GeneralReadings.{IsDecided}
use Rattle.litmus_reader.specs.StatedLines.{Stated}
use Rattle.litmus_reader.specs.WholeFiles.{IsTest}
use Rattle.litmus_reader.specs.LitmusText.{kinds, litmus_grammar}
use Rattle.litmus_reader.specs.Drafts.{IsOfFormed, IsExpected, IsDraft}
use Rattle.litmus_reader.specs.TakenLines.{IsTaken, IsFirstKind}
use Rattle.litmus_reader.proofs.Below.{PredicateLaws}
use Rattle.litmus_reader.proofs.Leading.{statement_decided}
use Rattle.litmus_reader.proofs.Faulting.{fault_foreign, fault_range, wide_or_small}
use Rattle.litmus_reader.proofs.Drafting.{has_version, in_order, may_not, unpaired_fault, head_taken, block_taken, block_fault, sector_taken, sector_fault, setup_taken, body_taken}
use Rattle.litmus_reader.proofs.Calling.{call_stage, setup_call_taken, setup_call_fault, body_call_taken, body_call_fault, question_taken, question_fault}
use Rattle.litmus_reader.proofs.Finishing.{unasked, finished, test_of}
use Rattle.litmus_reader.proofs.Saying.{sound_said, first_said, first_none}

-- whether a question is too long is decided
short_decided : (asked : List Lexeme) → IsShort asked ⊎ (IsShort asked → ⊥)
short_decided asked = elim (cases_lt 4096 (sum (map text_size asked))) [
  | inl long ↦ inr (λ short. omega (arith, short.texts))
  | inr texts ↦ elim (cases_lt 256 (word_count atom_words asked)) [
    | inl long ↦ inr (λ short. omega (arith, short.atoms))
    | inr atoms ↦ elim (cases_lt 256 (word_count (codes "not" ∷ []) asked)) [
      | inl long ↦ inr (λ short. omega (arith, short.nots))
      | inr nots ↦ elim (cases_lt 64 (most_open 0 asked)) [
        | inl long ↦ inr (λ short. omega (arith, short.depth))
        | inr depth ↦ inl (record { texts = texts; atoms = atoms; nots = nots; depth = depth })
      ]
    ]
  ]
]

in_body_decided : (p : Stage) → (p ≡ InBody) ⊎ (p ≡ InBody → ⊥)
in_body_decided InBody = inl refl
in_body_decided p = inr (λ e. absurd cc)

-- a statement is taken, or it has a fault
module _ (predicates : PredicateLaws) (stated : List Stated) (d : Draft) (line : ℕ) (h : IsDraft stated d) where
  abbrev Answered : Statement → Type 0
  Answered s = ((e : Draft) × IsTaken stated line s e) ⊎ ((kind : LitmusKind) × IsFirstKind (statements stated) s kind)

  setup_call : (c : Call) (q : Stage) → IsExpected d q (Called c) → (q ≡ InBody → ⊥) → Answered (Called c)
  setup_call c q x outside = elim (cases_Bool (is_setup_call c)) [
    | inr other ↦ inr (NotHere, setup_call_fault stated d c q NotHere h x outside (inl (refl, other)))
    | inl fits ↦ elim (cases_lt (length d.setup) 256) [
      | inl few ↦ inl (_, setup_call_taken stated d _ line c q h x outside fits few refl)
      | inr many ↦ inr (TooLong, setup_call_fault stated d c q TooLong h x outside (inr (refl, fits, many)))
    ]
  ]

  body_call : (c : Call) (q : Stage) → IsExpected d q (Called c) → q ≡ InBody → Answered (Called c)
  body_call c q x inside = elim (cases_Bool (is_body_call c)) [
    | inr other ↦ inr (NotHere, body_call_fault stated d c q NotHere h x inside (inl (refl, inl other)))
    | inl fits ↦ elim (cases_Bool (suits d.in_transaction c)) [
      | inr other ↦ inr (NotHere, body_call_fault stated d c q NotHere h x inside (inl (refl, inr other)))
      | inl suit ↦ elim (cases_Bool (is_sync c)) [
        | inl waits ↦ inl (_, body_call_taken stated d _ line c q h x inside fits suit (λ change. absurd (true≢false (sym waits ∙ change))) refl)
        | inr change ↦ elim (cases_lt d.changes 128) [
          | inl few ↦ inl (_, body_call_taken stated d _ line c q h x inside fits suit (λ same. few) refl)
          | inr many ↦ inr (TooLong, body_call_fault stated d c q TooLong h x inside (inr (refl, fits, suit, change, many)))
        ]
      ]
    ]
  ]

  expected : (s : Statement) (q : Stage) → IsExpected d q s → Answered s
  expected (Head name number) q x = inl (_, head_taken stated d _ line name number q h x refl)
  expected (Block size) q x = elim (cases_lt 0 size) [
    | inr none ↦ inr (NumberRange, block_fault stated d size q h x (inl (omega arith)))
    | inl some ↦ elim (cases_lt 65536 size) [
      | inl many ↦ inr (NumberRange, block_fault stated d size q h x (inr many))
      | inr few ↦ inl (_, block_taken stated d _ line size q h x some few refl)
    ]
  ]
  expected (Sector size) q x = elim (cases_lt 0 size) [
    | inr none ↦ inr (NumberRange, sector_fault stated d size q h x (inl (omega arith)))
    | inl some ↦ elim (cases_lt d.block size) [
      | inl many ↦ inr (NumberRange, sector_fault stated d size q h x (inr many))
      | inr few ↦ inl (_, sector_taken stated d _ line size q h x some few refl)
    ]
  ]
  expected Setup q x = inl (_, setup_taken stated d _ line q h x refl)
  expected Body q x = inl (_, body_taken stated d _ line q h x refl)
  expected (Called c) q x = elim (call_stage d.stage q x.leads) [
    | inl (at, leads) ↦ setup_call c q x (λ e. let same : InSetup ≡ InBody = sym leads ∙ e in absurd cc)
    | inr (at, leads) ↦ body_call c q x leads
  ]
  expected (Question want asked) q x = elim (short_decided asked) [
    | inr long ↦ inr (TooLong, question_fault stated d want asked q TooLong h x (inl (refl, long)))
    | inl short ↦ elim (predicates.some asked) [
      | inl (pred, is) ↦ inl (_, question_taken stated d _ line want asked pred q h x short is refl)
      | inr none ↦ inr (BadPredicate, question_fault stated d want asked q BadPredicate h x (inr (refl, short, none)))
    ]
  ]

  -- transactions allow the statement, or it stands in the body and they don't
  paired_or_not : (s : Statement) → (d.stage ≡ InBody → pairs d.in_transaction s ≡ true) ⊎ ((d.stage ≡ InBody) × (pairs d.in_transaction s ≡ false))
  paired_or_not s = elim (in_body_decided d.stage) [
    | inr outside ↦ inl (λ inside. absurd (outside inside))
    | inl inside ↦ elim (cases_Bool (pairs d.in_transaction s)) [ inl paired ↦ inl (λ same. paired) | inr unpaired ↦ inr (inside, unpaired) ]
  ]

  led : (s : Statement) (o : Option Stage) → stage_behind d.stage (form_of s) ≡ o → All (λ l. IsTrue (is_formed l)) (statement_lexemes s)
      → version_has d.version s ≡ true → Answered s
  led s None next formed has = inr (OutOfOrder, may_not stated d s h has next)
  led s (Some q) next formed has = elim (paired_or_not s) [
    | inr (inside, unpaired) ↦ inr (OutOfOrder, unpaired_fault stated d s h has inside unpaired)
    | inl paired ↦ elim (wide_or_small (statement_lexemes s)) [
      | inl large ↦ inr (NumberRange, fault_range (statements stated) s (has_version stated d s h has) (in_order stated d s q h next paired) (inl large))
      | inr small ↦ expected s q (record { of_version = has; leads = next; paired = paired; formed = formed; in_range = small })
    ]
  ]

  answered : (s : Statement) → All (λ l. IsTrue (is_formed l)) (statement_lexemes s) → Answered s
  answered s formed = elim (cases_Bool (version_has d.version s)) [
    | inr foreign ↦ inr (BadLine, fault_foreign (statements stated) s (ap (λ (v : ℕ). version_has v s) (sym h.version) ∙ foreign))
    | inl has ↦ led s (stage_behind d.stage (form_of s)) refl formed has
  ]

-- a draft of which nothing is read yet
abbrev empty_draft : Draft
empty_draft = record { stage = Start; name = []; version = 1; block = 4096; sector = 4096; setup = []; body = []; changes = 0; in_transaction = false; question = None }

empty_kept : IsDraft [] empty_draft
empty_kept = record {
  stands = (refl, refl, refl, (refl, refl, refl));
  reached = refl;
  version = refl;
  block = refl;
  of_version = All-nil (λ (s : Stated). version_has 1 s.statement ≡ true);
  narrow = All-nil (λ (s : Stated). HasWide s.statement → ⊥);
  formed = All-nil IsOfFormed;
  some_sector = omega arith;
  small_sector = omega arith;
  small_block = omega arith;
  setup = All-nil (λ (step : Step). is_setup_call step.call ≡ true);
  few_setup = omega arith;
  body = All-nil (λ (step : Step). is_body_call step.call ≡ true);
  changes = refl;
  few_body = omega arith;
  opened = refl;
  placed = refl;
}

-- some draft keeps these statements
abbrev pub AreKept : List Stated → Type 0
AreKept stated = (d : Draft) × IsDraft stated d

module _ (predicates : PredicateLaws) where
  next : (stated : List Stated) (number : ℕ) (lexemes : List Lexeme) → AreKept stated → All (λ l. IsTrue (is_formed l)) lexemes
      → ((s : Statement) × (lexemes ≡ statement_lexemes s) × IsSound litmus_grammar (statements stated) (statement_lexemes s) × AreKept (stated ++ stated_in number s ∷ []))
      ⊎ ((kind : LitmusKind) × IsFirst (HaveFault (statements stated) lexemes) kinds kind)
  next stated number lexemes (d, h) formed = elim (statement_decided lexemes) [
    | inr none ↦ inr (BadLine, first_none (statements stated) lexemes (λ s e. absurd (none s e)))
    | inl (s, is) ↦ elim (answered predicates stated d number h s (subst (λ (ls : List Lexeme). All (λ l. IsTrue (is_formed l)) ls) is formed)) [
      | inl (e, taken) ↦ inl (s, is, sound_said (statements stated) s taken.faultless, (e, taken.kept))
      | inr (kind, first) ↦ inr (kind, first_said (statements stated) lexemes s kind is first)
    ]
  ]

  ended : (stated : List Stated) (d : Draft) (o : Option Asked) → d.question ≡ o → IsDraft stated d → ((t : Test) × IsTest stated t) ⊎ IsUnended litmus_grammar stated
  ended stated d None is h = inr (unasked stated d h is)
  ended stated d (Some q) is h = inl (test_of d q, finished stated d q h is)

  -- each line of a file is decided, and its end
  pub decided : IsDecided litmus_grammar IsTest AreKept
  decided = record {
    none = (empty_draft, empty_kept);
    next = λ stated number lexemes kept some formed. next stated number lexemes kept formed;
    ended = λ stated kept. ended stated kept.0 kept.0.question refl kept.1;
  }
