-- Words are one command at most.
use Rattle.std.proofs.Common.{◌≡◌, ◌≤◌, ◌<◌, ℕ, List, [], ◌∷◌, Option, Some, None, Bool, true, if◌then◌else◌, position, bytes_eq, slice_get, decimal, codes, refl, sym, ap, ap₂, ◌∙◌, subst, arith}
use Rattle.std.proofs.lemmas.Fmt.{decimal_injective}
use Rattle.litmus_syntax.specs.declared.site.SiteKind.{SiteKind}
use Rattle.litmus_syntax.specs.declared.site.SiteKind.TheVariants as sites
use Rattle.model_library.specs.declared.texts.ShippedModel.{ShippedModel}
use Rattle.model_library.specs.declared.texts.ShippedModel.TheVariants as shipped
use Rattle.model_library.specs.ShippedModels.{shipped_word}
use Rattle.command_line.specs.declared.verbs.Verb.{Verb}
use Rattle.command_line.specs.declared.verbs.Verb.TheVariants as verb
use Rattle.command_line.specs.declared.commands.ModelName.{ModelName}
use Rattle.command_line.specs.declared.commands.ModelName.TheVariants as model
use Rattle.command_line.specs.declared.commands.SearchOptions.{SearchOptions}
use Rattle.command_line.specs.declared.commands.Command.{Command}
use Rattle.command_line.specs.declared.commands.Command.TheVariants.{Check, Repair, Verify, Replay, Events, Show, Models, Work, Explain, Hint, Trim, Flush}
use Rattle.command_line.specs.SimpleCommand.{Options}
use Rattle.command_line.specs.Verbs.{verb_text}
use Rattle.command_line.specs.Commands.{model_word, IsModelName, verb_of, AreOnModel, AreOperands, IsBranch, with_word, IsWith, IsConflicts, IsSearch, HasBranchAlone, HasNoOption, AreOptions, IsCommandLine}
use Rattle.command_line.specs.Lines.{EachOf}

-- what each command of a verb is, the command of that verb is
pub by_verb : (P : Command → Type 0) (v : Verb) → EachOf P v → (c : Command) → verb_of c ≡ v → P c
by_verb P v each (Check litmus model search) e = (subst (EachOf P) (sym e) each) litmus model search
by_verb P v each (Repair litmus model with search) e = (subst (EachOf P) (sym e) each) litmus model with search
by_verb P v each (Verify litmus model log) e = (subst (EachOf P) (sym e) each) litmus model log
by_verb P v each (Replay litmus model crash) e = (subst (EachOf P) (sym e) each) litmus model crash
by_verb P v each (Events litmus model) e = (subst (EachOf P) (sym e) each) litmus model
by_verb P v each (Show litmus) e = (subst (EachOf P) (sym e) each) litmus
by_verb P v each Models e = subst (EachOf P) (sym e) each
by_verb P v each (Work seed calls branch) e = (subst (EachOf P) (sym e) each) seed calls branch
by_verb P v each (Explain litmus model branch) e = (subst (EachOf P) (sym e) each) litmus model branch
by_verb P v each (Hint litmus model log hinted) e = (subst (EachOf P) (sym e) each) litmus model log hinted
by_verb P v each (Trim litmus model log trimmed) e = (subst (EachOf P) (sym e) each) litmus model log trimmed
by_verb P v each (Flush litmus model seed width) e = (subst (EachOf P) (sym e) each) litmus model seed width

-- the verb of a word
abbrev named : List ℕ → Verb
named word =
    if bytes_eq word (codes "check") then verb.Check else
    if bytes_eq word (codes "repair") then verb.Repair else
    if bytes_eq word (codes "verify") then verb.Verify else
    if bytes_eq word (codes "replay") then verb.Replay else
    if bytes_eq word (codes "events") then verb.Events else
    if bytes_eq word (codes "show") then verb.Show else
    if bytes_eq word (codes "models") then verb.Models else
    if bytes_eq word (codes "work") then verb.Work else
    if bytes_eq word (codes "explain") then verb.Explain else
    if bytes_eq word (codes "hint") then verb.Hint else
    if bytes_eq word (codes "trim") then verb.Trim else verb.Flush

named_text : (v : Verb) → named (verb_text v) ≡ v
named_text verb.Check = refl
named_text verb.Repair = refl
named_text verb.Verify = refl
named_text verb.Replay = refl
named_text verb.Events = refl
named_text verb.Show = refl
named_text verb.Models = refl
named_text verb.Work = refl
named_text verb.Explain = refl
named_text verb.Hint = refl
named_text verb.Trim = refl
named_text verb.Flush = refl

pub one_verb : (v w : Verb) → verb_text v ≡ verb_text w → v ≡ w
one_verb v w e = sym (named_text v) ∙ ap named e ∙ named_text w

-- a word names one model
one_shipped : (m n : ShippedModel) → shipped_word m ≡ shipped_word n → m ≡ n
one_shipped shipped.Sequential shipped.Sequential e = refl
one_shipped shipped.Ext4like shipped.Ext4like e = refl
one_shipped shipped.Loose shipped.Loose e = refl
one_shipped m n e = cc e

pub one_model : (m n : ModelName) → IsModelName m → IsModelName n → model_word m ≡ model_word n → m ≡ n
one_model (model.Shipped m) (model.Shipped n) p q e = ap model.Shipped (one_shipped m n (cc e))
one_model (model.Shipped m) (model.File name) p q e = absurd (q (ap (λ w. slice_get w 0) (sym e)))
one_model (model.File name) (model.Shipped n) p q e = absurd (p (ap (λ w. slice_get w 0) e))
one_model (model.File name) (model.File other) p q e = ap model.File e

record SameOnModel (litmus other : List ℕ) (m n : ModelName) (more rest : List (List ℕ)) : Type 0 where
  litmus_files : litmus ≡ other
  models : m ≡ n
  behind : more ≡ rest

on_one_model : (litmus : List ℕ) (m : ModelName) (more : List (List ℕ)) (other : List ℕ) (n : ModelName) (rest operands : List (List ℕ))
    → AreOnModel litmus m more operands → AreOnModel other n rest operands → SameOnModel litmus other m n more rest
on_one_model litmus m more other n rest operands p q =
    let e : litmus ∷ model_word m ∷ more ≡ other ∷ model_word n ∷ rest = sym p.1 ∙ q.1 in
    record { litmus_files = cc e; models = one_model m n p.0 q.0 (cc e); behind = cc e }

-- an option gives one value
one_limit : (word : Option (List ℕ)) (m n : Option ℕ) → IsConflicts word m → IsConflicts word n → m ≡ n
one_limit None m n p q = p ∙ sym q
one_limit (Some word) m n p q =
    let same : p.0 ≡ q.0 = decimal_injective p.0 q.0 (omega (arith, p.3)) (omega (arith, q.3)) (sym p.1 ∙ q.1) in
    p.4 ∙ ap (λ k. Some k) same ∙ sym q.4

one_branch : (choices : List (List ℕ)) (word : Option (List ℕ)) (m n : Option ℕ) → IsBranch choices word m → IsBranch choices word n → m ≡ n
one_branch choices None m n p q = p ∙ sym q
one_branch choices (Some word) m n p q = let e : Some p.0 ≡ Some q.0 = sym p.1 ∙ q.1 in p.2 ∙ e ∙ sym q.2

one_with : (word : Option (List ℕ)) (k l : SiteKind) → IsWith word k → IsWith word l → k ≡ l
one_with None k l p q = p ∙ sym q
one_with (Some word) k l p q = kinds k l (sym p ∙ q)
  where
    kinds : (k l : SiteKind) → with_word k ≡ with_word l → k ≡ l
    kinds sites.Fsync sites.Fsync e = refl
    kinds sites.Sync sites.Sync e = refl
    kinds sites.All sites.All e = refl
    kinds k l e = cc e

one_search : (choices : List (List ℕ)) (options : Options) (s t : SearchOptions) → IsSearch choices options s → IsSearch choices options t → s ≡ t
one_search choices options s t p q =
    let logs : s.log ≡ t.log = sym p.log ∙ q.log in
    let limits : s.conflicts ≡ t.conflicts = one_limit options.conflicts s.conflicts t.conflicts p.conflicts q.conflicts in
    let branches : s.branch ≡ t.branch = one_branch choices options.branch s.branch t.branch p.branch q.branch in
    let made : Option (List ℕ) → Option ℕ → Option ℕ → SearchOptions = λ log conflicts branch. record { log = log; conflicts = conflicts; branch = branch } in
    ap (λ x. made x s.conflicts s.branch) logs ∙ ap (λ x. made t.log x s.branch) limits ∙ ap (λ x. made t.log t.conflicts x) branches

-- operands and options are those of one command of a verb at most
abbrev IsOther : List (List ℕ) → List (List ℕ) → Options → Command → Command → Type 0
IsOther choices operands options c d = AreOperands d operands → AreOptions choices d options → c ≡ d

one_of_verb : (choices operands : List (List ℕ)) (options : Options) (c : Command) → AreOperands c operands → AreOptions choices c options → EachOf (IsOther choices operands options c) (verb_of c)
one_of_verb choices operands options (Check litmus m how) p o = λ other n more q r.
    let same = on_one_model litmus m [] other n [] operands p q in
    let searches = one_search choices options how more o.0 r.0 in
    cc (same.litmus_files, same.models, searches)
one_of_verb choices operands options (Repair litmus m with how) p o = λ other n kind more q r.
    let same = on_one_model litmus m [] other n [] operands p q in
    let searches = one_search choices options how more o.0 r.0 in
    let kinds = one_with options.with with kind o.1 r.1 in
    cc (same.litmus_files, same.models, searches, kinds)
one_of_verb choices operands options (Verify litmus m log) p o = λ other n name q r.
    let same = on_one_model litmus m (log ∷ []) other n (name ∷ []) operands p q in
    cc (same.litmus_files, same.models, same.behind)
one_of_verb choices operands options (Replay litmus m crash) p o = λ other n name q r.
    let same = on_one_model litmus m (crash ∷ []) other n (name ∷ []) operands p q in
    cc (same.litmus_files, same.models, same.behind)
one_of_verb choices operands options (Events litmus m) p o = λ other n q r.
    let same = on_one_model litmus m [] other n [] operands p q in
    cc (same.litmus_files, same.models)
one_of_verb choices operands options (Show litmus) p o = λ other q r.
    let e : litmus ∷ [] ≡ other ∷ [] = sym p ∙ q in
    let names : litmus ≡ other = cc e in
    ap Show names
one_of_verb choices operands options Models p o = λ q r. refl
one_of_verb choices operands options (Work seed calls branch) p o = λ other more place q r.
    let e : decimal seed ∷ decimal calls ∷ [] ≡ decimal other ∷ decimal more ∷ [] = sym p.0 ∙ q.0 in
    let seeds : seed ≡ other = decimal_injective seed other (omega (arith, p.1)) (omega (arith, q.1)) (cc e) in
    let counts : calls ≡ more = decimal_injective calls more (omega (arith, p.3)) (omega (arith, q.3)) (cc e) in
    let places : branch ≡ place = one_branch choices options.branch branch place o.branch r.branch in
    cc (seeds, counts, places)
one_of_verb choices operands options (Explain litmus m branch) p o = λ other n place q r.
    let same = on_one_model litmus m [] other n [] operands p q in
    let places : branch ≡ place = one_branch choices options.branch branch place o.branch r.branch in
    cc (same.litmus_files, same.models, places)
one_of_verb choices operands options (Hint litmus m log hinted) p o = λ other n name kept q r.
    let same = on_one_model litmus m (log ∷ hinted ∷ []) other n (name ∷ kept ∷ []) operands p q in
    cc (same.litmus_files, same.models, same.behind)
one_of_verb choices operands options (Trim litmus m log trimmed) p o = λ other n name kept q r.
    let same = on_one_model litmus m (log ∷ trimmed ∷ []) other n (name ∷ kept ∷ []) operands p q in
    cc (same.litmus_files, same.models, same.behind)
one_of_verb choices operands options (Flush litmus m seed width) p o = λ other n more wide q r.
    let same = on_one_model litmus m (decimal seed ∷ decimal width ∷ []) other n (decimal more ∷ decimal wide ∷ []) operands p.0 q.0 in
    let seeds : seed ≡ more = decimal_injective seed more (omega (arith, p.1)) (omega (arith, q.1)) (cc same.behind) in
    let widths : width ≡ wide = decimal_injective width wide (omega (arith, p.3)) (omega (arith, q.3)) (cc same.behind) in
    cc (same.litmus_files, same.models, seeds, widths)

pub one_command : (words choices : List (List ℕ)) (c d : Command) → IsCommandLine words choices c → IsCommandLine words choices d → c ≡ d
one_command words choices c d p q =
    let e : Some (verb_text (verb_of c)) ≡ Some (verb_text (verb_of d)) = sym p.verb ∙ q.verb in
    let verbs : verb_of c ≡ verb_of d = one_verb (verb_of c) (verb_of d) (cc e) in
    by_verb (IsOther choices _ _ c) (verb_of c) (one_of_verb choices _ _ c p.operands p.options) d (sym verbs) q.operands q.options
