-- A log is answered in one way: what it is about is determined by the log and the question.
use Rattle.std.proofs.Common.{◌≡◌, ℕ, ◌+◌, ◌<◌, ◌≤◌, List, [], ◌∷◌, Bool, true, false, length, Contains, Some, None, refl, sym, ◌∙◌, ap, subst, arith}
use Rattle.std.proofs.lemmas.List.Elements.{All-contains}
use Rattle.litmus_syntax.specs.declared.site.Site.{Site}
use Rattle.litmus_syntax.specs.declared.site.SiteKind.{SiteKind}
use Rattle.clause_store.specs.Clauses.{Formula}
use Rattle.fer_events.specs.Pairs.{PairList}
use Rattle.fer_events.specs.Tables.{Trace}
use Rattle.call_events.specs.Resolved.{HasEvents}
use Rattle.predicate_coding.specs.Coding.{coding}
use Rattle.proof_log.specs.Logs.{Logged}
use Rattle.rup_checker.specs.declared.judgement.JudgeKind.{JudgeKind}
use Rattle.rup_checker.specs.declared.judgement.Judgement.{Judgement}
use Rattle.rup_checker.specs.declared.judgement.Judgement.TheVariants.{Accepted, Refused}
use Rattle.rup_checker.specs.Kinds as check_kind
use Rattle.rup_checker.specs.Accepting.{IsAccepted, IsRefused}
use Rattle.sync_parts.specs.Sites.{sites_present}
use Rattle.sync_shrink.specs.Sets.{things_from}
use Rattle.sync_repair.specs.Sets.{AreKept, AreKeptWith}
use Rattle.report.specs.Answers.{Answer, LogRefused}
use Rattle.ferrite_run.specs.declared.question.Question.{Question}
use Rattle.ferrite_run.specs.Sites.{AreSitesOf}
use Rattle.ferrite_run.specs.Repair.{site_numbers}
use Rattle.ferrite_run.specs.Verify.{IsNamed, IsAbout, LacksSites, IsVerified}
use Rattle.ferrite_run.specs.Verify.IsAbout.{plain, sited, lifted}
use Rattle.ferrite_run.specs.Verify.LacksSites.{too_many, too_few}
use Rattle.ferrite_run.specs.Verify.IsVerified.{accepted, refused, unsited}
use Rattle.ferrite_run.proofs.Single.{Laws, one_refusal, one_kept}
use Rattle.ferrite_run.proofs.OneRepair.{never_listed}
use Rattle.ferrite_run.proofs.SitedLogs.{numbers_within}

-- the numbers of a set begin where it begins
not_before : (from n : ℕ) (t : List Bool) (rest : List ℕ) → n < from → n ∷ rest ≡ things_from from t → ⊥
not_before from n [] rest less e = cc
not_before from n (true ∷ t) rest less e = let same : n ≡ from = cc in omega (arith, less, same)
not_before from n (false ∷ t) rest less e = not_before (from + 1) n t rest (omega (arith, less)) e

-- one set has these numbers
one_set : (from : ℕ) (s t : List Bool) → length s ≡ length t → things_from from s ≡ things_from from t → s ≡ t
one_set from [] [] long e = refl
one_set from [] (x ∷ t) long e = absurd (omega (arith, long))
one_set from (x ∷ s) [] long e = absurd (omega (arith, long))
one_set from (true ∷ s) (true ∷ t) long e =
    let rest : things_from (from + 1) s ≡ things_from (from + 1) t = cc in
    ap (λ (l : List Bool). true ∷ l) (one_set (from + 1) s t (omega (arith, long)) rest)
one_set from (false ∷ s) (false ∷ t) long e = ap (λ (l : List Bool). false ∷ l) (one_set (from + 1) s t (omega (arith, long)) e)
one_set from (true ∷ s) (false ∷ t) long e = absurd (not_before (from + 1) from t (things_from (from + 1) s) (omega arith) e)
one_set from (false ∷ s) (true ∷ t) long e = absurd (not_before (from + 1) from s (things_from (from + 1) t) (omega arith) (sym e))

no_kind : (kind : SiteKind) → None ≡ Some kind → ⊥
no_kind kind e = cc

no_place : (before : ℕ) → None ≡ Some before → ⊥
no_place before e = cc

some_kind : (a b : SiteKind) → Some a ≡ Some b → a ≡ b
some_kind a b e = cc

one_kind : (q : Question) (log : Logged) (a b : SiteKind) → log.kind ≡ Some a → log.kind ≡ Some b → a ≡ b
one_kind q log a b e f = some_kind a b (sym e ∙ f)

-- the sites of the log's kind are one list
one_sites : (q : Question) (log : Logged) (a b : SiteKind) (sites others : List Site) → log.kind ≡ Some a → log.kind ≡ Some b → AreSitesOf q a sites → AreSitesOf q b others → sites ≡ others
one_sites q log a b sites others e f are all =
    are.listed ∙ sym (subst (λ (k : SiteKind). AreSitesOf q k others) (sym (one_kind q log a b e f)) all).listed

-- the log names one set of them
one_named : (q : Question) (log : Logged) (a b : SiteKind) (sites others : List Site) (s t : List Bool) → IsNamed q log a sites s → IsNamed q log b others t → (sites ≡ others) × (s ≡ t)
one_named q log a b sites others s t h g =
    let same : sites ≡ others = one_sites q log a b sites others h.kind_is g.kind_is h.all g.all in
    (same, one_set 1 s t (h.full ∙ ap (λ (l : List Site). length l) same ∙ sym g.full) (sym h.numbers ∙ g.numbers))

-- and so it is about one formula
formula_over : Question → Trace → PairList → Formula
formula_over q t kept = coding t kept.pairs q.litmus.pred q.litmus.want

one_formula : (q : Question) (t u : Trace) (p r : PairList) → t ≡ u → p ≡ r → formula_over q t p ≡ formula_over q u r
one_formula q t u p r e f = ap (λ (x : Trace). formula_over q x p) e ∙ ap (formula_over q u) f

one_sited :
    Laws → (q : Question) (present other : List Site) (t u : Trace) (p r : PairList) → present ≡ other → HasEvents q.litmus present t → HasEvents q.litmus other u
    → AreKept q.model t.events p → AreKept q.model u.events r → formula_over q t p ≡ formula_over q u r
one_sited laws q present other t u p r same has have are kept =
    let e : t ≡ u = laws.one_trace q.litmus present t u has (subst (λ (s : List Site). HasEvents q.litmus s u) (sym same) have) in
    one_formula q t u p r e (one_kept q.model t.events p r are (subst (λ (x : Trace). AreKept q.model x.events r) (sym e) kept))

one_lifted :
    Laws → (q : Question) (sites others : List Site) (s v : List Bool) (t u : Trace) (p r : PairList) → sites ≡ others → s ≡ v → HasEvents q.litmus sites t → HasEvents q.litmus others u
    → AreKeptWith q.litmus q.model sites s t p → AreKeptWith q.litmus q.model others v u r → formula_over q t p ≡ formula_over q u r
one_lifted laws q sites others s v t u p r same set has have are kept =
    let e : t ≡ u = laws.one_trace q.litmus sites t u has (subst (λ (l : List Site). HasEvents q.litmus l u) (sym same) have) in
    one_formula q t u p r e
    (laws.one_list q.litmus q.model sites s t p r are
    (subst (λ (x : Trace). AreKeptWith q.litmus q.model sites s x r) (sym e)
    (subst (λ (l : List Bool). AreKeptWith q.litmus q.model sites l u r) (sym set)
    (subst (λ (l : List Site). AreKeptWith q.litmus q.model l v u r) (sym same) kept))))

one_about : Laws → (q : Question) (log : Logged) (present other : List Site) (f g : Formula) → IsAbout q log present f → IsAbout q log other g → f ≡ g
unfolding formula_over
one_about laws q log present other f g (plain none without e) (plain neither nothing d) = e ∙ sym d
one_about laws q log present other f g (plain none without e) (sited kind sites set named first are t has p kept d) = absurd (no_kind kind (sym none ∙ named.kind_is))
one_about laws q log present other f g (plain none without e) (lifted kind sites set named before at are t has p kept d) = absurd (no_kind kind (sym none ∙ named.kind_is))
one_about laws q log present other f g (sited kind sites set named first are t has p kept e) (plain none without d) = absurd (no_kind kind (sym none ∙ named.kind_is))
one_about laws q log present other f g (sited kind sites set named first are t has p kept e) (sited sort others s names alone is u have r keeps d) =
    let (same, one) = one_named q log kind sort sites others set s named names in
    e ∙ one_sited laws q present other t u p r (are ∙ ap (λ (l : List Site). sites_present l set) same ∙ ap (sites_present others) one ∙ sym is) has have kept keeps ∙ sym d
one_about laws q log present other f g (sited kind sites set named first are t has p kept e) (lifted sort others s names before at is u have r keeps d) = absurd (no_place before (sym first ∙ at))
one_about laws q log present other f g (lifted kind sites set named before at are t has p kept e) (plain none without d) = absurd (no_kind kind (sym none ∙ named.kind_is))
one_about laws q log present other f g (lifted kind sites set named before at are t has p kept e) (sited sort others s names alone is u have r keeps d) = absurd (no_place before (sym alone ∙ at))
one_about laws q log present other f g (lifted kind sites set named before at are t has p kept e) (lifted sort others s names place there is u have r keeps d) =
    let (same, one) = one_named q log kind sort sites others set s named names in
    e ∙ one_lifted laws q sites others set s t u p r same one has have kept keeps ∙ sym d

-- a log that names sites of the test doesn't lack them
never_lacks : (q : Question) (log : Logged) (kind : SiteKind) (sites : List Site) (set : List Bool) → LacksSites q log → IsNamed q log kind sites set → ⊥
never_lacks q log kind sites set (too_many sort e line many) named =
    never_listed q sort line sites many (subst (λ (k : SiteKind). AreSitesOf q k sites) (one_kind q log kind sort named.kind_is e) named.all)
never_lacks q log kind sites set (too_few sort e others are n there more) named =
    let same : others ≡ sites = one_sites q log sort kind others sites e named.kind_is are named.all in
    let low : (1 ≤ n) × (n < 1 + length set) =
    All-contains (λ x. (1 ≤ x) × (x < 1 + length set)) (site_numbers set) n (numbers_within 1 (1 + length set) 1 set (omega arith) (omega arith))
    (subst (λ (l : List ℕ). Contains l n) named.numbers there) in
    omega (arith, low.1, more, named.full, ap (λ (l : List Site). length l) same)

never_both : (q : Question) (log : Logged) (present : List Site) (f : Formula) → LacksSites q log → IsAbout q log present f → ⊥
never_both q log present f (too_many sort e line many) (plain none without d) = no_kind sort (sym none ∙ e)
never_both q log present f (too_few sort e others are n there more) (plain none without d) = no_kind sort (sym none ∙ e)
never_both q log present f lacks (sited kind sites set named first are t has p kept e) = never_lacks q log kind sites set lacks named
never_both q log present f lacks (lifted kind sites set named before at are t has p kept e) = never_lacks q log kind sites set lacks named

-- the line and the number of a judgement's kind
judged_line : Judgement → ℕ
judged_line Accepted = 0
judged_line (Refused line kind) = line

judged_kind : Judgement → ℕ
judged_kind Accepted = 0
judged_kind (Refused line kind) = check_kind.kind_number kind

not_accepted : (line : ℕ) (kind : JudgeKind) → Accepted ≡ Refused line kind → ⊥
not_accepted line kind e = cc

never_refused : Laws → (q : Question) (log : Logged) (present other : List Site) (f g : Formula) (line : ℕ) (kind : JudgeKind) → IsAbout q log present f → IsAbout q log other g
    → IsAccepted f log → IsRefused g log line kind → ⊥
never_refused laws q log present other f g line kind about also is was =
    not_accepted line kind
    (laws.one_check f log Accepted (Refused line kind) is (subst (λ (x : Formula). IsRefused x log line kind) (sym (one_about laws q log present other f g about also)) was))

pub one_verdict : Laws → (q : Question) (log : Logged) (a b : Answer) → IsVerified q log a → IsVerified q log b → a ≡ b
unfolding judged_line judged_kind
one_verdict laws q log a b (accepted present f about is none e) (accepted other g also was never d) = e ∙ sym d
one_verdict laws q log a b (accepted present f about is none e) (refused other g also line kind was d) = absurd (never_refused laws q log present other f g line kind about also is was)
one_verdict laws q log a b (refused present f about line kind is e) (accepted other g also was never d) = absurd (never_refused laws q log other present g f line kind also about was is)
one_verdict laws q log a b (refused present f about line kind is e) (refused other g also place sort was d) =
    let one =
    laws.one_check f log (Refused line kind) (Refused place sort) is
    (subst (λ (x : Formula). IsRefused x log place sort) (sym (one_about laws q log present other f g about also)) was) in
    e ∙ one_refusal LogRefused line place (check_kind.kind_number kind) (check_kind.kind_number sort) (ap judged_line one) (ap judged_kind one) ∙ sym d
one_verdict laws q log a b (unsited lacks e) (unsited lack d) = e ∙ sym d
one_verdict laws q log a b (unsited lacks e) (accepted other g also was never d) = absurd (never_both q log other g lacks also)
one_verdict laws q log a b (unsited lacks e) (refused other g also line kind was d) = absurd (never_both q log other g lacks also)
one_verdict laws q log a b (accepted present f about is none e) (unsited lacks d) = absurd (never_both q log present f lacks about)
one_verdict laws q log a b (refused present f about line kind is e) (unsited lacks d) = absurd (never_both q log present f lacks about)
