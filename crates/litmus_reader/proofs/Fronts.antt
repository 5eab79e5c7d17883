-- What is said of the statements up to a stage of a litmus file.
use Rattle.std.proofs.Common.{◌≡◌, ◌≢◌, ℕ, Bool, true, false, ◌||◌, List, [], ◌∷◌, ◌++◌, map, Option, Some, refl, sym, ◌∙◌, ap, ap₂, subst, inl, inr, append_assoc}
use Rattle.std.proofs.lemmas.List.{map-append}
use Rattle.std.proofs.lemmas.List.Sums.{fold_push}
use Rattle.litmus_syntax.specs.declared.call.Call.{Call}
use Rattle.litmus_syntax.specs.declared.call.Step.{Step}
use Rattle.litmus_syntax.specs.Transactions.{calls_of}
use Rattle.litmus_reader.specs.declared.statements.Form.{Form}
use Rattle.litmus_reader.specs.declared.stages.Stage.{Stage}
use Rattle.litmus_reader.specs.declared.stages.Stage.TheVariants.{Start, BehindHead, BehindBlock, BehindSector, InSetup, InBody, End}
use Rattle.litmus_reader.specs.declared.draft.Draft.{Draft}
use Rattle.litmus_reader.specs.Calls.{calls_in, begins_body, body_calls, block_behind, block_of}
use Rattle.litmus_reader.specs.Statements.{Statement, Head, Block, Setup, Body, Called, Question, form_of}
use Rattle.litmus_reader.specs.Versions.{version_of}
use Rattle.litmus_reader.specs.Stages.{stage_behind, run}
use Rattle.line_files.specs.StatedLines.{stated_in, statements}
use Rattle.litmus_reader.specs.StatedLines.{Stated}
use Rattle.litmus_reader.specs.WholeFiles.{stated_step, IsBlock, IsSector, IsFront, IsSetup}
use Rattle.litmus_reader.specs.Drafts.{StandsAt}
use Rattle.litmus_reader.proofs.Orders.{run_more}

-- the forms of the statements
abbrev pub forms : List Stated → List Form
forms stated = map form_of (statements stated)

pub statements-append : (xs ys : List Stated) → statements (xs ++ ys) ≡ statements xs ++ statements ys
statements-append xs ys = map-append (λ (t : Stated). t.statement) xs ys

pub forms-append : (xs ys : List Stated) → forms (xs ++ ys) ≡ forms xs ++ forms ys
forms-append xs ys = ap (map form_of) (statements-append xs ys) ∙ map-append form_of (statements xs) (statements ys)

-- one more line leads on
pub reached_more : (stated : List Stated) (line : ℕ) (s : Statement) (p q : Stage) → run Start (forms stated) ≡ Some p → stage_behind p (form_of s) ≡ Some q
    → run Start (forms (stated ++ stated_in line s ∷ [])) ≡ Some q
reached_more stated line s p q at next =
    ap (run Start) (forms-append stated (stated_in line s ∷ [])) ∙ run_more (forms stated) (form_of s) p q at next

-- the size of a block behind one more line
pub block_more : (stated : List Stated) (line : ℕ) (s : Statement)
    → block_of (statements (stated ++ stated_in line s ∷ [])) ≡ block_behind (block_of (statements stated)) s
block_more stated line s =
    ap block_of (statements-append stated (stated_in line s ∷ [])) ∙ fold_push block_behind 4096 (statements stated) s

-- which statements begin the body, and which calls they make
pub begins_body-append : (xs ys : List Statement) → begins_body (xs ++ ys) ≡ begins_body xs || begins_body ys
begins_body-append [] ys = refl
begins_body-append (Body ∷ xs) ys = refl
begins_body-append (x ∷ xs) ys = begins_body-append xs ys

pub calls_in-append : (xs ys : List Statement) → calls_in (xs ++ ys) ≡ calls_in xs ++ calls_in ys
calls_in-append [] ys = refl
calls_in-append (Called c ∷ xs) ys = ap (λ (cs : List Call). c ∷ cs) (calls_in-append xs ys)
calls_in-append (x ∷ xs) ys = calls_in-append xs ys

pub body_calls-behind : (xs ys : List Statement) → begins_body xs ≡ false → body_calls (xs ++ Body ∷ ys) ≡ calls_in ys
body_calls-behind [] ys h = refl
body_calls-behind (Body ∷ xs) ys h = absurd cc
body_calls-behind (x ∷ xs) ys h = body_calls-behind xs ys h

pub steps_begin : (steps : List Step) → begins_body (statements (map stated_step steps)) ≡ false
steps_begin [] = refl
steps_begin (step ∷ steps) = steps_begin steps

pub steps_call : (steps : List Step) → calls_in (statements (map stated_step steps)) ≡ calls_of steps
steps_call [] = refl
steps_call (step ∷ steps) = ap (λ (cs : List Call). step.call ∷ cs) (steps_call steps)

-- statements that begin no body and make no call
abbrev pub IsQuiet : List Statement → Type 0
IsQuiet ss = (begins_body ss ≡ false) × (calls_in ss ≡ [])

quiet_block : (part : List Stated) (size : ℕ) → IsBlock part size → IsQuiet (statements part)
quiet_block part size (inl none) = subst (λ (p : List Stated). IsQuiet (statements p)) (sym none.0) (refl, refl)
quiet_block part size (inr some) = subst (λ (p : List Stated). IsQuiet (statements p)) (sym some.1) (refl, refl)

quiet_sector : (part : List Stated) (block size : ℕ) → IsSector part block size → IsQuiet (statements part)
quiet_sector part block size (inl none) = subst (λ (p : List Stated). IsQuiet (statements p)) (sym none.0) (refl, refl)
quiet_sector part block size (inr some) = subst (λ (p : List Stated). IsQuiet (statements p)) (sym some.1) (refl, refl)

quiet_both : (xs ys : List Stated) → IsQuiet (statements xs) → IsQuiet (statements ys) → IsQuiet (statements (xs ++ ys))
quiet_both xs ys a b = (
  ap begins_body (statements-append xs ys) ∙ begins_body-append (statements xs) (statements ys) ∙ ap₂ (λ (x : Bool) (y : Bool). x || y) a.0 b.0,
  ap calls_in (statements-append xs ys) ∙ calls_in-append (statements xs) (statements ys) ∙ ap₂ (λ (x : List Call) (y : List Call). x ++ y) a.1 b.1,
)

pub front_quiet : (part : List Stated) (name : List ℕ) (version block sector : ℕ) → IsFront part name version block sector → IsQuiet (statements part)
front_quiet part name version block sector h =
    subst (λ (p : List Stated). IsQuiet (statements p)) (sym h.order)
    (quiet_both h.block_part h.sector_part (quiet_block h.block_part block h.has_block) (quiet_sector h.sector_part block sector h.has_sector))

-- the body isn't begun by a setup, whose calls are these
pub setup_quiet : (setup : List Stated) (steps : List Step) → IsSetup setup steps
    → (begins_body (statements setup) ≡ false) × (calls_in (statements setup) ≡ calls_of steps)
setup_quiet setup steps (inl none) = (
  ap (λ (st : List Stated). begins_body (statements st)) none.0,
  ap (λ (st : List Stated). calls_in (statements st)) none.0 ∙ sym (ap calls_of none.1),
)
setup_quiet setup steps (inr some) = (
  ap (λ (st : List Stated). begins_body (statements st)) some.1 ∙ steps_begin steps,
  ap (λ (st : List Stated). calls_in (statements st)) some.1 ∙ steps_call steps,
)

-- behind a front, the body isn't begun by what doesn't begin it, and the calls are those that stand there
pub behind_front : (front rest : List Stated) → IsQuiet (statements front)
    → (begins_body (statements (front ++ rest)) ≡ begins_body (statements rest)) × (calls_in (statements (front ++ rest)) ≡ calls_in (statements rest))
behind_front front rest quiet = (
  ap begins_body (statements-append front rest) ∙ begins_body-append (statements front) (statements rest) ∙ ap (λ (b : Bool). b || begins_body (statements rest)) quiet.0,
  ap calls_in (statements-append front rest) ∙ calls_in-append (statements front) (statements rest) ∙ ap (λ (cs : List Call). cs ++ calls_in (statements rest)) quiet.1,
)

-- in the setup, the calls so far are those of the setup
pub setup_calls_so_far : (stated : List Stated) (d : Draft) → StandsAt InSetup stated d
    → (begins_body (statements stated) ≡ false) × (calls_in (statements stated) ≡ calls_of d.setup)
setup_calls_so_far stated d (front, line, f, is, empty, unasked) =
    let quiet = behind_front front (stated_in line Setup ∷ map stated_step d.setup) (front_quiet front d.name d.version d.block d.sector f) in (
      ap (λ (st : List Stated). begins_body (statements st)) is ∙ quiet.0 ∙ steps_begin d.setup,
      ap (λ (st : List Stated). calls_in (statements st)) is ∙ quiet.1 ∙ steps_call d.setup,
    )

-- the statements before the body begin no body
pub before_body : (front setup : List Stated) (steps : List Step) → IsQuiet (statements front) → IsSetup setup steps
    → begins_body (statements (front ++ setup)) ≡ false
before_body front setup steps quiet s = (behind_front front setup quiet).0 ∙ (setup_quiet setup steps s).0

-- in the body, the calls behind its line are those of the body
pub body_calls_so_far : (stated : List Stated) (d : Draft) → StandsAt InBody stated d
    → (begins_body (statements stated) ≡ true) × (body_calls (statements stated) ≡ calls_of d.body)
body_calls_so_far stated d (front, setup, line, f, s, is, unasked) =
    let quiet = before_body front setup d.setup (front_quiet front d.name d.version d.block d.sector f) s in
    let cut : statements stated ≡ statements (front ++ setup) ++ Body ∷ statements (map stated_step d.body) =
    ap statements is ∙ statements-append (front ++ setup) (stated_in line Body ∷ map stated_step d.body) in (
      ap begins_body cut ∙ begins_body-append (statements (front ++ setup)) (Body ∷ statements (map stated_step d.body))
          ∙ ap (λ (x : Bool). x || true) quiet,
      ap body_calls cut ∙ body_calls-behind (statements (front ++ setup)) (statements (map stated_step d.body)) quiet ∙ steps_call d.body,
    )

-- a file begins with its head
abbrev pub Headed : List Stated → List ℕ → Type 0
Headed stated name = (line : ℕ) × (number : Option ℕ) × (rest : List Stated) × (stated ≡ stated_in line (Head name number) ∷ rest)

pub front_headed : (front rest stated : List Stated) (name : List ℕ) (version block sector : ℕ) → IsFront front name version block sector → stated ≡ front ++ rest
    → Headed stated name
front_headed front rest stated name version block sector h is =
    (h.head_line, h.number, h.block_part ++ h.sector_part ++ rest, is ∙ ap (λ (f : List Stated). f ++ rest) h.order)

pub headed : (p : Stage) (stated : List Stated) (d : Draft) → StandsAt p stated d → p ≢ Start → Headed stated d.name
headed Start stated d h begun = absurd (begun refl)
headed BehindHead stated d (line, number, is, v, b, t, c) begun = (line, number, [], is)
headed BehindBlock stated d (head, line, number, is, v, t, c) begun = (head, number, stated_in line (Block d.block) ∷ [], is)
headed BehindSector stated d h begun = (h.0.head_line, h.0.number, h.0.block_part ++ h.0.sector_part, h.0.order)
headed InSetup stated d (front, line, f, is, body, unasked) begun =
    front_headed front (stated_in line Setup ∷ map stated_step d.setup) stated d.name d.version d.block d.sector f is
headed InBody stated d (front, setup, line, f, s, is, unasked) begun =
    front_headed front (setup ++ stated_in line Body ∷ map stated_step d.body) stated d.name d.version d.block d.sector f
    (is ∙ append_assoc front setup (stated_in line Body ∷ map stated_step d.body))
headed End stated d (front, setup, line, f, s, asked, q, is, question, short, pred, closed) begun =
    let end = map stated_step d.body ++ stated_in q.line (Question q.want asked) ∷ [] in
    front_headed front (setup ++ stated_in line Body ∷ end) stated d.name d.version d.block d.sector f
    (is ∙ append_assoc (front ++ setup) (stated_in line Body ∷ map stated_step d.body) (stated_in q.line (Question q.want asked) ∷ [])
    ∙ append_assoc front setup (stated_in line Body ∷ end))

-- one more line behind the head doesn't change the version
pub version_more : (stated : List Stated) (name : List ℕ) (line : ℕ) (s : Statement) → Headed stated name
    → version_of (statements (stated ++ stated_in line s ∷ [])) ≡ version_of (statements stated)
version_more stated name line s (head, number, rest, is) =
    ap (λ (st : List Stated). version_of (statements (st ++ stated_in line s ∷ []))) is ∙ sym (ap (λ (st : List Stated). version_of (statements st)) is)
