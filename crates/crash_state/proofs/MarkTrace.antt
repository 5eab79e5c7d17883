-- The events of the test: one mark, and 32 files without a name.
use Rattle.std.proofs.Common.{◌≡◌, List, ℕ, [], ◌∷◌, None, ◌≤◌, replicate, length, refl, true, IsTrue, arith}
use Rattle.text_scan.specs.Forms.{is_word}
use Rattle.std.proofs.lemmas.List.Elements.{All-nil, All-cons, All-replicate}
use Rattle.std.proofs.lemmas.List.Sorted.{IsNonDecreasingBy-short}
use Rattle.fer_events.specs.declared.event.Kind.TheVariants.{Mark}
use Rattle.fer_events.specs.declared.event.Effect.TheVariants.{See}
use Rattle.fer_events.specs.Tables.{Trace, IsTrace, IsEventOf}

unfoldable pub mark_trace : Trace
mark_trace = record {
  start = record { slots = []; contents = replicate 32 []; attrs = [] };
  events = record { kind = Mark; file = None; block = None; dir = None; slot = None; call = 1; txn = 1; effect = See 0 } ∷ [];
  dirs = [];
  slots = [];
  keys = [];
  words = (109 ∷ []) ∷ [];
}

pub mark_trace_kept : IsTrace mark_trace
unfolding mark_trace
mark_trace_kept = record {
  slots_held = refl;
  files_there = All-nil _;
  contents_fit = All-replicate (λ content. length content ≤ 65536) 32 [] (omega arith);
  attrs_there = All-nil _;
  attrs_once = λ i j d l h. absurd (omega arith);
  dirs_there = All-nil _;
  dirs_formed = All-nil _;
  slots_formed = All-nil _;
  keys_formed = All-nil _;
  words_formed = All-cons (λ word. IsTrue (is_word word)) (109 ∷ []) [] (refl {a = true}) (All-nil _);
  dirs_once = λ i j d l h. absurd (omega arith);
  slots_once = λ i j d l h. absurd (omega arith);
  keys_once = λ i j d l h. absurd (omega arith);
  words_once = λ i j d l h. absurd (omega arith);
  events_fit = All-cons (IsEventOf mark_trace) _ [] (record { carries = refl; file_there = tt; dir_there = tt; slot_there = tt; effect = omega arith }) (All-nil _);
  calls_rise = IsNonDecreasingBy-short (λ e. e.call) mark_trace.events (omega arith);
  txns_rise = IsNonDecreasingBy-short (λ e. e.txn) mark_trace.events (omega arith);
  few_events = omega arith;
  few_files = omega arith;
  few_dirs = omega arith;
  few_slots = omega arith;
  few_keys = omega arith;
  few_words = omega arith;
}
