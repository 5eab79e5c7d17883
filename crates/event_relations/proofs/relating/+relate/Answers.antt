use Rattle.std.proofs.Common.{◌≡◌, ℕ, List, sym, ◌∙◌, subst}
use Rattle.fer_events.specs.declared.event.Event.{Event}
use Rattle.model_reader.specs.declared.expr.Expr.{Expr}
use Rattle.model_reader.specs.declared.expr.Expr.TheVariants as expr
use Rattle.event_relations.specs.Meaning.{Means, Names}
use Rattle.event_relations.specs.Showing.{Shows, names_shown}
use Rattle.event_relations.proofs.Showing.{names_shown_positive, shows_word, shows_operated, shows_plus, shows_named}
use Rattle.event_relations.proofs.Transitive.{shows_joined}
use Rattle.event_relations.proofs.relating.+relate.Goals as goal
use Rattle.event_relations.proofs.relating.+relate.Goals.{in_default+in_ok-rows-in_default, in-Named+in_ok-rows-in-Named, in-Or+in_ok-left_rows-in-Or+in_ok-right_rows-in-Or, in-Plus+in_ok-inner_rows-in-Plus}

shown_at : (events : List Event) (names : Names) (x y : Expr) (rows new : List ℕ) → x ≡ y → rows ≡ new → Shows new (Means events names y) → Shows rows (Means events names x)
shown_at events names x y rows new xy is h =
    subst (λ (r : List ℕ). Shows r (Means events names x)) (sym is) (subst (λ (z : Expr). Shows new (Means events names z)) (sym xy) h)

operand : (events : List Event) (names : Names) (x y : Expr) (rows : List ℕ) → x ≡ y → Shows rows (Means events names x) → Shows rows (Means events names y)
operand events names x y rows is h = subst (λ (z : Expr). Shows rows (Means events names z)) is h

lent : (events : List Event) (names : Names) (x : Expr) (rows seen : List ℕ) → seen ≡ rows → Shows rows (Means events names x) → Shows seen (Means events names x)
lent events names x rows seen is h = subst (λ (r : List ℕ). Shows r (Means events names x)) (sym is) h

pub returns-clause-shows : goal.returns-clause-shows
returns-clause-shows t c = elim c.match-x.branch [
  | in-Named+in_ok-rows-in-Named w ↦ shown_at c.args.events.now (names_shown c.args.names.now) c.args.x.now (expr.Named w.in-Named.index) c.match-x.rows w.in_ok-rows-in-Named.rows w.in-Named.is w.rows-is (shows_named c.args.events.now c.args.names.now w.in-Named.index w.in_ok-rows-in-Named.rows (λ a b. (λ h. sym (w.in_ok-rows-in-Named.ensures.bits a b) ∙ h, λ h. w.in_ok-rows-in-Named.ensures.bits a b ∙ h)))
  | in-Plus+in_ok-inner_rows-in-Plus w ↦
      shown_at c.args.events.now (names_shown c.args.names.now) c.args.x.now (expr.Plus w.in-Plus.inner) c.match-x.rows w.closed-rows.result w.in-Plus.is w.rows-is
      (shows_plus c.args.events.now (names_shown c.args.names.now) (names_shown_positive c.args.names.now) w.in-Plus.inner w.in_ok-inner_rows-in-Plus.inner_rows w.closed-rows.result (operand c.args.events.now (names_shown c.args.names.now) w.get.result.now w.in-Plus.inner w.in_ok-inner_rows-in-Plus.inner_rows w.get.ensures w.in_ok-inner_rows-in-Plus.ensures.shows) w.closed-rows.ensures.joined)
  | in_default+in_ok-rows-in_default w ↦
      subst (λ (r : List ℕ). Shows r (Means c.args.events.now (names_shown c.args.names.now) c.args.x.now)) (sym w.rows-is)
      (shows_word c.args.events.now (names_shown c.args.names.now) c.args.x.now w.in_default.not-Named w.in_default.not-Or w.in_default.not-And w.in_default.not-Seq w.in_default.not-Plus
      w.in_ok-rows-in_default.rows w.in_ok-rows-in_default.ensures.bits)
  | in-Or+in_ok-left_rows-in-Or+in_ok-right_rows-in-Or w ↦
      let names = names_shown c.args.names.now in
      let left_shows = operand c.args.events.now names w.get-in-Or.result.now w.in-Or.left w.in_ok-left_rows-in-Or.left_rows w.get-in-Or.ensures w.in_ok-left_rows-in-Or.ensures.shows in
      let right_shows =
      lent c.args.events.now names w.in-Or.right w.in_ok-right_rows-in-Or.right_rows w.as_slice.result.now w.as_slice.ensures
      (operand c.args.events.now names w.get-in-Or-2.result.now w.in-Or.right w.in_ok-right_rows-in-Or.right_rows w.get-in-Or-2.ensures w.in_ok-right_rows-in-Or.ensures.shows) in
      subst (λ (r : List ℕ). Shows r (Means c.args.events.now names c.args.x.now)) (sym w.rows-is)
      (shows_operated c.args.events.now names (names_shown_positive c.args.names.now) c.args.x.now w.in-Or.left w.in-Or.right w.in_ok-left_rows-in-Or.left_rows w.as_slice.result.now w.operated-rows.result
      w.in-Or.is left_shows right_shows w.operated-rows.ensures.union w.operated-rows.ensures.intersection w.operated-rows.ensures.sequence)
]

pub closed-rows-requires-clause-paths : goal.closed-rows-requires-clause-paths
closed-rows-requires-clause-paths t c joined =
    let events = c.args.events.now in
    let names = names_shown c.args.names.now in
    let same : c.get.result.now ≡ c.get-in-Plus.result.now = c.get.ensures ∙ sym c.get-in-Plus.ensures in
    shows_joined c.in_ok-inner_rows-in-Plus.inner_rows (Means events names c.get-in-Plus.result.now)
    (operand events names c.get.result.now c.get-in-Plus.result.now c.in_ok-inner_rows-in-Plus.inner_rows same c.in_ok-inner_rows-in-Plus.ensures.shows)
    (joined events c.args.names.now)
