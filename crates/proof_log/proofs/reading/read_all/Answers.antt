use Rattle.std.proofs.Common.{refl, ap, subst}
use Rattle.std.specs.Prelude.{Err}
use Rattle.text_scan.specs.Lines.{lines_of}
use Rattle.proof_log.specs.declared.fault.LogFault.{LogFault}
use Rattle.proof_log.specs.Logs.{Logged}
use Rattle.proof_log.specs.LogText.{head_line, sites_line, formula_line}
use Rattle.proof_log.specs.Stages.{begun, Runs, Fails}
use Rattle.proof_log.specs.Stages.Stage.{fresh, headed, sited, within, ended}
use Rattle.proof_log.proofs.Failing.{handed_on, one_behind, one_on}
use Rattle.proof_log.proofs.reading.read_all.Goals as goal

pub returns-in_err-second-clause-refused : goal.returns-in_err-second-clause-refused
returns-in_err-second-clause-refused c = λ number kind e.
    c.in_err-second.ensures.refused number kind (ap (λ (x : LogFault). Err x) (handed_on c.from_residual.result c.in_err-second.field-0.0 c.from_residual.ensures.1 number kind e))

pub returns-in_err-sites-clause-refused : goal.returns-in_err-sites-clause-refused
returns-in_err-sites-clause-refused c = λ number kind e.
    let second = c.in_ok-second.second in
    one_behind fresh (headed second) 0 (lines_of c.args.bytes.now) (head_line second) (lines_of c.in_ok-second.rest.now) number kind c.in_ok-second.ensures.read (second, refl, refl)
    (c.in_err-sites.ensures.refused number kind
    (ap (λ (x : LogFault). Err x) (handed_on c.from_residual-in_err-sites.result c.in_err-sites.field-0.0 c.from_residual-in_err-sites.ensures.1 number kind e)))

pub returns-in_err-vars-clause-refused : goal.returns-in_err-vars-clause-refused
returns-in_err-vars-clause-refused c = λ number kind e.
    let second = c.in_ok-second.second in
    let made = c.in_ok-sites.sites.kind in
    let sites = c.in_ok-sites.sites.numbers in
    one_behind fresh (headed second) 0 (lines_of c.args.bytes.now) (head_line second) (lines_of c.in_ok-second.rest.now) number kind c.in_ok-second.ensures.read (second, refl, refl)
    (one_behind (headed second) (sited second made sites) 1 (lines_of c.in_ok-second.rest.now) (sites_line made sites) (lines_of c.in_ok-sites.rest.now) number kind c.in_ok-sites.ensures.read.1
    (made, sites, c.in_ok-sites.ensures.read.0, refl, refl)
    (c.in_err-vars.ensures.refused number kind
    (ap (λ (x : LogFault). Err x) (handed_on c.from_residual-in_err-vars.result c.in_err-vars.field-0.0 c.from_residual-in_err-vars.ensures.1 number kind e)) second made sites))

pub returns-in_err-read_lines-clause-refused : goal.returns-in_err-read_lines-clause-refused
returns-in_err-read_lines-clause-refused c = λ number kind e.
    let second = c.in_ok-second.second in
    let made = c.in_ok-sites.sites.kind in
    let sites = c.in_ok-sites.sites.numbers in
    let vars = c.in_ok-vars.vars in
    let clauses = c.in_ok-vars.clauses in
    let start = begun made sites vars clauses in
    let rest = lines_of c.in_ok-vars.rest.now in
    let last : Fails (within second c.in_ok-log.log) 3 rest number kind =
    c.in_err-read_lines.ensures.refused number kind
    (ap (λ (x : LogFault). Err x) (handed_on c.from_residual-in_err-read_lines.result c.in_err-read_lines.field-0.0 c.from_residual-in_err-read_lines.ensures.1 number kind e)) in
    one_behind fresh (headed second) 0 (lines_of c.args.bytes.now) (head_line second) (lines_of c.in_ok-second.rest.now) number kind c.in_ok-second.ensures.read (second, refl, refl)
    (one_behind (headed second) (sited second made sites) 1 (lines_of c.in_ok-second.rest.now) (sites_line made sites) (lines_of c.in_ok-sites.rest.now) number kind c.in_ok-sites.ensures.read.1
    (made, sites, c.in_ok-sites.ensures.read.0, refl, refl)
    (one_behind (sited second made sites) (within second start) 2 (lines_of c.in_ok-sites.rest.now) (formula_line vars clauses) rest number kind c.in_ok-vars.ensures.read.2
    (vars, clauses, c.in_ok-vars.ensures.read.0, c.in_ok-vars.ensures.read.1, refl, refl)
    (subst (λ (l : Logged). Fails (within second l) 3 rest number kind) c.in_ok-log.ensures last)))

pub returns-clause-read : goal.returns-clause-read
returns-clause-read c =
    let second = c.in_ok-second.second in
    let made = c.in_ok-sites.sites.kind in
    let sites = c.in_ok-sites.sites.numbers in
    let vars = c.in_ok-vars.vars in
    let clauses = c.in_ok-vars.clauses in
    let start = begun made sites vars clauses in
    let rest = lines_of c.in_ok-vars.rest.now in
    let to = ended c.read_lines.new.draft.log in
    let last : Runs (within second c.in_ok-log.log) rest to = c.in_ok-read_lines.ensures.read in
    one_on fresh (headed second) to (lines_of c.args.bytes.now) (head_line second) (lines_of c.in_ok-second.rest.now) c.in_ok-second.ensures.read (second, refl, refl)
    (one_on (headed second) (sited second made sites) to (lines_of c.in_ok-second.rest.now) (sites_line made sites) (lines_of c.in_ok-sites.rest.now) c.in_ok-sites.ensures.read.1
    (made, sites, c.in_ok-sites.ensures.read.0, refl, refl)
    (one_on (sited second made sites) (within second start) to (lines_of c.in_ok-sites.rest.now) (formula_line vars clauses) rest c.in_ok-vars.ensures.read.2
    (vars, clauses, c.in_ok-vars.ensures.read.0, c.in_ok-vars.ensures.read.1, refl, refl)
    (subst (λ (l : Logged). Runs (within second l) rest to) c.in_ok-log.ensures last)))
