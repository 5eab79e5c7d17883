use Rattle.std.proofs.Common.{◌≡◌, ℕ, List, ◌++◌, Some, length, get_or, sym, ◌∙◌, ap, arith}
use Rattle.std.proofs.lemmas.List.{length-map}
use Rattle.std.proofs.lemmas.Option.{slice_get-get_or}
use Rattle.litmus_syntax.specs.declared.call.Call.{Call}
use Rattle.litmus_syntax.specs.Texts.{path_text}
use Rattle.fer_events.specs.declared.tables.SlotName.{SlotName}
use Rattle.fer_events.specs.Paths.{slot_path}
use Rattle.sync_sites.proofs.Steps.{length-held, named_sync}
use Rattle.sync_sites.proofs.syncs.push_file_sync.Goals as goal

pub least_name-requires : goal.least_name-requires
least_name-requires c =
    let t = c.args.events.now in
    omega (
      arith,
      ap (λ h. length h) c.requires.held,
      ap (λ h. length h) c.requires.texts,
      length-held c.args.number t c.keeps_rules.ensures,
      length-map t.slots (λ (slot : SlotName). path_text (slot_path t.dirs slot)),
    )

pub returns-in_ok-push : goal.returns-in_ok-push
returns-in_ok-push c =
    let t = c.args.events.now in
    let slot = c.in-Some.slot in
    let texts_long : length c.args.texts.now ≡ length t.slots =
    ap (λ h. length h) c.requires.texts ∙ length-map t.slots (λ (slot : SlotName). path_text (slot_path t.dirs slot)) in
    let name_is = c.index-slots-slot.is ∙ ap (λ (slots : List SlotName). get_or slots slot c.index-slots-slot.result) c.slots.ensures in
    let there = slice_get-get_or t.slots slot c.index-slots-slot.result (omega (arith, texts_long, c.in-Some.ensures.there)) ∙ ap (λ (name : SlotName). Some name) (sym name_is) in
    let path_is = c.in_ok-path.ensures ∙ ap (λ (dirs : List (List (List ℕ))). slot_path dirs c.index-slots-slot.result) c.dirs.ensures in
    c.in_ok-push.ensures.ok
    ∙ ap (λ (syncs : List Call). c.args.syncs.now ++ syncs)
    (named_sync c.args.number t c.args.file slot c.args.texts.now c.args.held.now c.index-slots-slot.result c.in_ok-path.path
    (sym c.touches_file.ensures ∙ c.if-not-touches_file.false) c.requires.texts c.requires.held (sym c.least_name.ensures.least ∙ c.in-Some.is)
    there path_is)
