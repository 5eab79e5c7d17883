-- A draft that takes one more line keeps one more statement, or the line has a fault.
use Rattle.std.proofs.Common.{◌≡◌, ◌≢◌, ◌⊎◌, ℕ, ◌<◌, ◌≤◌, Bool, true, false, List, [], ◌∷◌, ◌++◌, map, Option, Some, None, refl, sym, ◌∙◌, ap, subst, inl, inr, append-nil, arith}
use Rattle.std.specs.List.{All}
use Rattle.std.proofs.lemmas.List.Elements.{All-push, All-nil, All-same}
use Rattle.std.proofs.lemmas.Option.{none-some, same_Some}
use Rattle.litmus_syntax.specs.declared.call.Step.{Step}
use Rattle.litmus_syntax.specs.Transactions.{is_open}
use Rattle.litmus_reader.specs.declared.statements.Form.{Form}
use Rattle.litmus_reader.specs.declared.statements.Form.TheVariants as form
use Rattle.litmus_reader.specs.declared.stages.Stage.{Stage}
use Rattle.litmus_reader.specs.declared.stages.Stage.TheVariants.{Start, BehindHead, BehindBlock, BehindSector, InSetup, InBody, End}
use Rattle.litmus_reader.specs.declared.draft.Draft.{Draft}
use Rattle.litmus_reader.specs.declared.fault.LitmusKind.TheVariants.{BadLine, OutOfOrder, NumberRange, NotHere, BadPredicate, TooLong}
use Rattle.litmus_reader.specs.Calls.{begins_body, block_behind, block_of}
use Rattle.litmus_reader.specs.Stages.{stage_behind, run}
use Rattle.litmus_reader.specs.Statements.{Statement, Head, Block, Sector, Setup, Body, form_of}
use Rattle.litmus_reader.specs.Versions.{version_named, version_of, version_has}
use Rattle.litmus_reader.specs.Faults.{pairs, HasWide}
use Rattle.litmus_reader.specs.TakenLines.{IsFirstKind}
use Rattle.line_files.specs.StatedLines.{stated_in, statements}
use Rattle.litmus_reader.specs.StatedLines.{Stated}
use Rattle.litmus_reader.specs.WholeFiles.{stated_step, IsFront}
use Rattle.litmus_reader.specs.Drafts.{IsCallless, StandsAt, IsExpected, IsOfFormed, IsDraft}
use Rattle.litmus_reader.specs.TakenLines.{IsTaken}
use Rattle.litmus_reader.proofs.Orders.{may_stand, may_not_stand}
use Rattle.litmus_reader.proofs.Fronts.{forms, reached_more, block_more, headed, version_more, setup_calls_so_far, body_calls_so_far, front_quiet}
use Rattle.litmus_reader.proofs.Faulting.{Stands, Lacks, faultless, known, ordered, ranges, fault_order, fault_range}

-- a line that leads to a stage may stand behind the statements of the draft
pub may : (stated : List Stated) (d : Draft) (s : Statement) (q : Stage) → IsDraft stated d → stage_behind d.stage (form_of s) ≡ Some q
    → Stands (statements stated) s
may stated d s q h next = may_stand (forms stated) (form_of s) d.stage q h.reached next

-- a statement of the draft's version is known
pub has_version : (stated : List Stated) (d : Draft) (s : Statement) → IsDraft stated d → version_has d.version s ≡ true → Lacks (statements stated) s BadLine
has_version stated d s h has = known (statements stated) s (ap (λ (v : ℕ). version_has v s) (sym h.version) ∙ has)

-- and one that leads to none may not
pub may_not : (stated : List Stated) (d : Draft) (s : Statement) → IsDraft stated d → version_has d.version s ≡ true → stage_behind d.stage (form_of s) ≡ None
    → IsFirstKind (statements stated) s OutOfOrder
may_not stated d s h has none =
    fault_order (statements stated) s (has_version stated d s h has) (inl (may_not_stand (forms stated) (form_of s) d.stage h.reached none))

-- before the body no body begins, and at its end no line may stand
not_begun : (p q : Stage) (stated : List Stated) (d : Draft) (f : Form) → StandsAt p stated d → stage_behind p f ≡ Some q → begins_body (statements stated) ≡ true
    → p ≡ InBody
not_begun Start q stated d f h next begun = absurd (let none : begins_body (statements stated) ≡ false = ap (λ (st : List Stated). begins_body (statements st)) h.0 in cc)
not_begun BehindHead q stated d f h next begun =
    absurd (let none : begins_body (statements stated) ≡ false = ap (λ (st : List Stated). begins_body (statements st)) h.2 in cc)
not_begun BehindBlock q stated d f h next begun =
    absurd (let none : begins_body (statements stated) ≡ false = ap (λ (st : List Stated). begins_body (statements st)) h.3 in cc)
not_begun BehindSector q stated d f h next begun =
    absurd (let none = (front_quiet stated d.name d.version d.block d.sector h.0).0 in cc)
not_begun InSetup q stated d f h next begun = absurd (let none = (setup_calls_so_far stated d h).0 in cc)
not_begun InBody q stated d f h next begun = refl
not_begun End q stated d f h next begun = absurd (none-some q next)

-- transactions allow the statement where the draft says so
pub in_order : (stated : List Stated) (d : Draft) (s : Statement) (q : Stage) → IsDraft stated d → stage_behind d.stage (form_of s) ≡ Some q
    → (d.stage ≡ InBody → pairs d.in_transaction s ≡ true) → Lacks (statements stated) s OutOfOrder
in_order stated d s q h next paired =
    ordered (statements stated) s (may stated d s q h next) (λ begun.
    let at = not_begun d.stage q stated d (form_of s) h.stands next begun in
    let here = subst (λ (p : Stage). StandsAt p stated d) at h.stands in
    ap (λ (b : Bool). pairs b s) (sym (h.opened ∙ ap is_open (sym (body_calls_so_far stated d here).1))) ∙ paired at)

-- and one that they don't allow has that fault
pub unpaired_fault : (stated : List Stated) (d : Draft) (s : Statement) → IsDraft stated d → version_has d.version s ≡ true → d.stage ≡ InBody
    → pairs d.in_transaction s ≡ false → IsFirstKind (statements stated) s OutOfOrder
unpaired_fault stated d s h has at unpaired =
    let here = subst (λ (p : Stage). StandsAt p stated d) at h.stands in
    let calls = body_calls_so_far stated d here in
    fault_order (statements stated) s (has_version stated d s h has)
    (inr (calls.0, ap (λ (b : Bool). pairs b s) (sym (h.opened ∙ ap is_open (sym calls.1))) ∙ unpaired))

-- what is known of each statement that is expected
module _ (stated : List Stated) (d : Draft) (line : ℕ) (s : Statement) (q : Stage) (h : IsDraft stated d) (x : IsExpected d q s) where
  pub has : Lacks (statements stated) s BadLine
  has = has_version stated d s h x.of_version

  pub order : Lacks (statements stated) s OutOfOrder
  order = in_order stated d s q h x.leads x.paired

  pub reached_next : run Start (forms (stated ++ stated_in line s ∷ [])) ≡ Some q
  reached_next = reached_more stated line s d.stage q h.reached x.leads

  pub version_next : d.stage ≢ Start → d.version ≡ version_of (statements (stated ++ stated_in line s ∷ []))
  version_next begun = h.version ∙ sym (version_more stated d.name line s (headed d.stage stated d h.stands begun))

  pub block_next : block_behind d.block s ≡ block_of (statements (stated ++ stated_in line s ∷ []))
  block_next = ap (λ (b : ℕ). block_behind b s) h.block ∙ sym (block_more stated line s)

  pub of_version_next : All (λ t. version_has d.version t.statement ≡ true) (stated ++ stated_in line s ∷ [])
  of_version_next = All-push (λ (t : Stated). version_has d.version t.statement ≡ true) stated (stated_in line s) h.of_version x.of_version

  pub narrow_next : All (λ t. HasWide t.statement → ⊥) (stated ++ stated_in line s ∷ [])
  narrow_next = All-push (λ (t : Stated). HasWide t.statement → ⊥) stated (stated_in line s) h.narrow x.in_range

  pub formed_next : All IsOfFormed (stated ++ stated_in line s ∷ [])
  formed_next = All-push IsOfFormed stated (stated_in line s) h.formed x.formed

-- a draft whose calls stay: only the sizes, the stage and what stands there change
pub sized_taken : (stated : List Stated) (d : Draft) (line : ℕ) (s : Statement) (q : Stage) (block sector : ℕ) → IsDraft stated d → IsExpected d q s
    → d.stage ≢ Start → StandsAt q (stated ++ stated_in line s ∷ []) (record d { stage = q; block = block; sector = sector })
    → block ≡ block_behind d.block s → 1 ≤ sector → sector ≤ block → block ≤ 65536
    → Lacks (statements stated) s NumberRange → Lacks (statements stated) s NotHere → Lacks (statements stated) s TooLong
    → Lacks (statements stated) s BadPredicate → IsTaken stated line s (record d { stage = q; block = block; sector = sector })
sized_taken stated d line s q block sector h x begun stands is some small few range here long asks = record {
  faultless = faultless (statements stated) s (has stated d line s q h x) (order stated d line s q h x) range here long asks;
  kept = record {
    stands = stands;
    reached = reached_next stated d line s q h x;
    version = version_next stated d line s q h x begun;
    block = is ∙ block_next stated d line s q h x;
    of_version = of_version_next stated d line s q h x;
    narrow = narrow_next stated d line s q h x;
    formed = formed_next stated d line s q h x;
    some_sector = some;
    small_sector = small;
    small_block = few;
    setup = h.setup;
    few_setup = h.few_setup;
    body = h.body;
    changes = h.changes;
    few_body = h.few_body;
    opened = h.opened;
    placed = h.placed;
  };
}

-- the head
head_stands : (p q : Stage) (stated : List Stated) (d : Draft) (line : ℕ) (name : List ℕ) (number : Option ℕ) → StandsAt p stated d
    → stage_behind p form.Head ≡ Some q
    → (stated ≡ []) × StandsAt q (stated ++ stated_in line (Head name number) ∷ []) (record d { stage = q; name = name; version = version_named number })
head_stands Start q stated d line name number h next =
    let at : BehindHead ≡ q = same_Some BehindHead q next in
    subst (λ (r : Stage). (stated ≡ []) × StandsAt r (stated ++ stated_in line (Head name number) ∷ []) (record d { stage = q; name = name; version = version_named number })) at
    (h.0, (line, number, ap (λ (st : List Stated). st ++ stated_in line (Head name number) ∷ []) h.0, refl, h.1, h.2, h.3))
head_stands p q stated d line name number h next = absurd (none-some q next)

same_head : (v w : ℕ) (name : List ℕ) (number : Option ℕ) → version_has v (Head name number) ≡ version_has w (Head name number)
same_head v w name None = refl
same_head v w name (Some n) = refl

pub head_taken : (stated : List Stated) (d e : Draft) (line : ℕ) (name : List ℕ) (number : Option ℕ) (q : Stage) → IsDraft stated d → IsExpected d q (Head name number)
    → e ≡ record d { stage = q; name = name; version = version_named number } → IsTaken stated line (Head name number) e
head_taken stated d e line name number q h x is =
    let s = Head name number in
    let at = head_stands d.stage q stated d line name number h.stands x.leads in
    let version = version_named number in
    let first : version ≡ version_of (statements (stated ++ stated_in line s ∷ [])) =
    sym (ap (λ (st : List Stated). version_of (statements (st ++ stated_in line s ∷ []))) at.0) in
    let P : Stated → Type 0 = λ t. version_has version t.statement ≡ true in
    subst (λ (y : Draft). IsTaken stated line s y) (sym is) (record {
      faultless = faultless (statements stated) s (has stated d line s q h x) (order stated d line s q h x) (ranges (statements stated) s x.in_range (λ b. b)) (λ b. b) (λ b. b) (λ b. b);
      kept = record {
        stands = at.1;
        reached = reached_next stated d line s q h x;
        version = first;
        block = block_next stated d line s q h x;
        of_version = All-push P stated (stated_in line s) (All-same P stated [] at.0 (All-nil P)) (same_head version d.version name number ∙ x.of_version);
        narrow = narrow_next stated d line s q h x;
        formed = formed_next stated d line s q h x;
        some_sector = h.some_sector;
        small_sector = h.small_sector;
        small_block = h.small_block;
        setup = h.setup;
        few_setup = h.few_setup;
        body = h.body;
        changes = h.changes;
        few_body = h.few_body;
        opened = h.opened;
        placed = h.placed;
      };
    })

-- the block
block_stands : (p q : Stage) (stated : List Stated) (d : Draft) (line size : ℕ) → StandsAt p stated d → stage_behind p form.Block ≡ Some q
    → (p ≢ Start) × StandsAt q (stated ++ stated_in line (Block size) ∷ []) (record d { stage = q; block = size; sector = size })
block_stands BehindHead q stated d line size (head, number, is, version, block, sector, callless) next =
    let at : BehindBlock ≡ q = same_Some BehindBlock q next in (
      λ e. absurd cc,
      subst (λ (r : Stage). StandsAt r (stated ++ stated_in line (Block size) ∷ []) (record d { stage = q; block = size; sector = size })) at
          (head, line, number, ap (λ (st : List Stated). st ++ stated_in line (Block size) ∷ []) is, version, refl, callless),
    )
block_stands p q stated d line size h next = absurd (none-some q next)

pub block_taken : (stated : List Stated) (d e : Draft) (line size : ℕ) (q : Stage) → IsDraft stated d → IsExpected d q (Block size)
    → 1 ≤ size → size ≤ 65536 → e ≡ record d { stage = q; block = size; sector = size } → IsTaken stated line (Block size) e
block_taken stated d e line size q h x some few is =
    let s = Block size in
    let at = block_stands d.stage q stated d line size h.stands x.leads in
    subst (λ (y : Draft). IsTaken stated line s y) (sym is) (sized_taken stated d line s q size size h x at.0 at.1 refl some (omega arith) few
    (ranges (statements stated) s x.in_range (λ b. elim b [ inl none ↦ omega arith | inr many ↦ omega arith ])) (λ b. b) (λ b. b) (λ b. b))

pub block_fault : (stated : List Stated) (d : Draft) (size : ℕ) (q : Stage) → IsDraft stated d → IsExpected d q (Block size)
    → (size ≡ 0) ⊎ (65536 < size) → IsFirstKind (statements stated) (Block size) NumberRange
block_fault stated d size q h x bad =
    fault_range (statements stated) (Block size) (has stated d 0 (Block size) q h x) (order stated d 0 (Block size) q h x) (inr bad)

-- the sector
sector_stands : (p q : Stage) (stated : List Stated) (d : Draft) (line size : ℕ) → StandsAt p stated d → stage_behind p form.Sector ≡ Some q
    → (p ≢ Start) × StandsAt q (stated ++ stated_in line (Sector size) ∷ []) (record d { stage = q; block = d.block; sector = size })
sector_stands BehindHead q stated d line size (head, number, is, version, block, sector, callless) next =
    let at : BehindSector ≡ q = same_Some BehindSector q next in
    let front : IsFront (stated ++ stated_in line (Sector size) ∷ []) d.name d.version d.block size = record {
      head_line = head;
      number = number;
      block_part = [];
      sector_part = stated_in line (Sector size) ∷ [];
      order = ap (λ (st : List Stated). st ++ stated_in line (Sector size) ∷ []) is;
      has_version = version;
      has_block = inl (refl, block);
      has_sector = inr (line, refl);
    } in (
      λ e. absurd cc,
      subst (λ (r : Stage). StandsAt r (stated ++ stated_in line (Sector size) ∷ []) (record d { stage = q; block = d.block; sector = size })) at (front, callless),
    )
sector_stands BehindBlock q stated d line size (head, at_block, number, is, version, sector, callless) next =
    let at : BehindSector ≡ q = same_Some BehindSector q next in
    let front : IsFront (stated ++ stated_in line (Sector size) ∷ []) d.name d.version d.block size = record {
      head_line = head;
      number = number;
      block_part = stated_in at_block (Block d.block) ∷ [];
      sector_part = stated_in line (Sector size) ∷ [];
      order = ap (λ (st : List Stated). st ++ stated_in line (Sector size) ∷ []) is;
      has_version = version;
      has_block = inr (at_block, refl);
      has_sector = inr (line, refl);
    } in (
      λ e. absurd cc,
      subst (λ (r : Stage). StandsAt r (stated ++ stated_in line (Sector size) ∷ []) (record d { stage = q; block = d.block; sector = size })) at (front, callless),
    )
sector_stands p q stated d line size h next = absurd (none-some q next)

pub sector_taken : (stated : List Stated) (d e : Draft) (line size : ℕ) (q : Stage) → IsDraft stated d → IsExpected d q (Sector size)
    → 1 ≤ size → size ≤ d.block → e ≡ record d { stage = q; sector = size } → IsTaken stated line (Sector size) e
sector_taken stated d e line size q h x some few is =
    let s = Sector size in
    let at = sector_stands d.stage q stated d line size h.stands x.leads in
    let same = h.block in
    subst (λ (y : Draft). IsTaken stated line s y) (sym is) (sized_taken stated d line s q d.block size h x at.0 at.1 refl some few h.small_block
    (ranges (statements stated) s x.in_range (λ b. elim b [ inl none ↦ omega arith | inr many ↦ omega arith ])) (λ b. b) (λ b. b) (λ b. b))

pub sector_fault : (stated : List Stated) (d : Draft) (size : ℕ) (q : Stage) → IsDraft stated d → IsExpected d q (Sector size)
    → (size ≡ 0) ⊎ (d.block < size) → IsFirstKind (statements stated) (Sector size) NumberRange
sector_fault stated d size q h x bad =
    fault_range (statements stated) (Sector size) (has stated d 0 (Sector size) q h x) (order stated d 0 (Sector size) q h x)
    (inr (subst (λ (b : ℕ). (size ≡ 0) ⊎ (b < size)) h.block bad))

-- a stage that the setup or the body may follow
abbrev IsEarly : Stage → Type 0
IsEarly p = (p ≢ Start) × (p ≢ InBody) × (p ≢ End)

-- there, only lines before the setup stand, or the setup
front_kept : (p : Stage) (stated : List Stated) (d : Draft) → IsEarly p → StandsAt p stated d
    → (p ≡ InSetup) ⊎ (IsFront stated d.name d.version d.block d.sector × IsCallless d)
front_kept Start stated d is_early h = absurd (is_early.0 refl)
front_kept BehindHead stated d is_early (head, number, is, version, block, sector, callless) = inr (
  record {
    head_line = head;
    number = number;
    block_part = [];
    sector_part = [];
    order = is;
    has_version = version;
    has_block = inl (refl, block);
    has_sector = inl (refl, sector);
  },
  callless,
)
front_kept BehindBlock stated d is_early (head, at_block, number, is, version, sector, callless) = inr (
  record {
    head_line = head;
    number = number;
    block_part = stated_in at_block (Block d.block) ∷ [];
    sector_part = [];
    order = is;
    has_version = version;
    has_block = inr (at_block, refl);
    has_sector = inl (refl, sector);
  },
  callless,
)
front_kept BehindSector stated d is_early h = inr h
front_kept InSetup stated d is_early h = inl refl
front_kept InBody stated d is_early h = absurd (is_early.1 refl)
front_kept End stated d is_early h = absurd (is_early.2 refl)

-- the setup begins, or the body
setup_next : (p q : Stage) → stage_behind p form.Setup ≡ Some q → IsEarly p × (p ≢ InSetup) × (InSetup ≡ q)
setup_next BehindHead q next = ((λ e. absurd cc, λ e. absurd cc, λ e. absurd cc), (λ e. absurd cc), same_Some InSetup q next)
setup_next BehindBlock q next = ((λ e. absurd cc, λ e. absurd cc, λ e. absurd cc), (λ e. absurd cc), same_Some InSetup q next)
setup_next BehindSector q next = ((λ e. absurd cc, λ e. absurd cc, λ e. absurd cc), (λ e. absurd cc), same_Some InSetup q next)
setup_next p q next = absurd (none-some q next)

body_next : (p q : Stage) → stage_behind p form.Body ≡ Some q → IsEarly p × (InBody ≡ q)
body_next BehindHead q next = ((λ e. absurd cc, λ e. absurd cc, λ e. absurd cc), same_Some InBody q next)
body_next BehindBlock q next = ((λ e. absurd cc, λ e. absurd cc, λ e. absurd cc), same_Some InBody q next)
body_next BehindSector q next = ((λ e. absurd cc, λ e. absurd cc, λ e. absurd cc), same_Some InBody q next)
body_next InSetup q next = ((λ e. absurd cc, λ e. absurd cc, λ e. absurd cc), same_Some InBody q next)
body_next p q next = absurd (none-some q next)

setup_stands : (q : Stage) (stated : List Stated) (d : Draft) (line : ℕ) → StandsAt d.stage stated d → stage_behind d.stage form.Setup ≡ Some q
    → (d.stage ≢ Start) × StandsAt q (stated ++ stated_in line Setup ∷ []) (record d { stage = q })
setup_stands q stated d line h next =
    let to = setup_next d.stage q next in
    elim (front_kept d.stage stated d to.0 h) [
      | inl at ↦ absurd (to.1 at)
      | inr (front, callless) ↦ (
        to.0.0,
        subst (λ (r : Stage). StandsAt r (stated ++ stated_in line Setup ∷ []) (record d { stage = q })) to.2 (
          stated,
          line,
          front,
          ap (λ (steps : List Step). stated ++ stated_in line Setup ∷ map stated_step steps) (sym callless.0),
          callless.1,
          callless.2,
        ),
      )
    ]

body_stands : (q : Stage) (stated : List Stated) (d : Draft) (line : ℕ) → StandsAt d.stage stated d → stage_behind d.stage form.Body ≡ Some q
    → (d.stage ≢ Start) × StandsAt q (stated ++ stated_in line Body ∷ []) (record d { stage = q })
body_stands q stated d line h next =
    let to = body_next d.stage q next in
    let at : StandsAt InBody (stated ++ stated_in line Body ∷ []) (record d { stage = q }) → StandsAt q (stated ++ stated_in line Body ∷ []) (record d { stage = q }) =
    subst (λ (r : Stage). StandsAt r (stated ++ stated_in line Body ∷ []) (record d { stage = q })) to.1 in
    elim (front_kept d.stage stated d to.0 h) [
      | inl inside ↦ (to.0.0, at (from_setup (subst (λ (p : Stage). StandsAt p stated d) inside h)))
      | inr (front, callless) ↦ (
        to.0.0,
        at (
          stated,
          [],
          line,
          front,
          inl (refl, callless.0),
          ap (λ (steps : List Step). stated ++ stated_in line Body ∷ map stated_step steps) (sym callless.1)
              ∙ ap (λ (st : List Stated). st ++ stated_in line Body ∷ map stated_step d.body) (sym (append-nil stated)),
          callless.2,
        ),
      )
    ]
  where
    from_setup : StandsAt InSetup stated d → StandsAt InBody (stated ++ stated_in line Body ∷ []) (record d { stage = q })
    from_setup (front, at_setup, f, is, body, unasked) = (
      front,
      stated_in at_setup Setup ∷ map stated_step d.setup,
      line,
      f,
      inr (at_setup, refl),
      ap (λ (st : List Stated). st ++ stated_in line Body ∷ []) is
          ∙ ap (λ (steps : List Step). front ++ (stated_in at_setup Setup ∷ map stated_step d.setup) ++ stated_in line Body ∷ map stated_step steps) (sym body),
      unasked,
    )

pub setup_taken : (stated : List Stated) (d e : Draft) (line : ℕ) (q : Stage) → IsDraft stated d → IsExpected d q Setup → e ≡ record d { stage = q }
    → IsTaken stated line Setup e
setup_taken stated d e line q h x is =
    let at = setup_stands q stated d line h.stands x.leads in
    subst (λ (y : Draft). IsTaken stated line Setup y) (sym is) (sized_taken stated d line Setup q d.block d.sector h x at.0 at.1 refl h.some_sector h.small_sector h.small_block
    (ranges (statements stated) Setup x.in_range (λ b. b)) (λ b. b) (λ b. b) (λ b. b))

pub body_taken : (stated : List Stated) (d e : Draft) (line : ℕ) (q : Stage) → IsDraft stated d → IsExpected d q Body → e ≡ record d { stage = q }
    → IsTaken stated line Body e
body_taken stated d e line q h x is =
    let at = body_stands q stated d line h.stands x.leads in
    subst (λ (y : Draft). IsTaken stated line Body y) (sym is) (sized_taken stated d line Body q d.block d.sector h x at.0 at.1 refl h.some_sector h.small_sector h.small_block
    (ranges (statements stated) Body x.in_range (λ b. b)) (λ b. b) (λ b. b) (λ b. b))
