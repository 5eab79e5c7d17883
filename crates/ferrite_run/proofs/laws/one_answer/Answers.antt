use Rattle.ferrite_run.proofs.OneAnswer.{one_answer}
use Rattle.ferrite_run.proofs.laws.one_answer.Goals as goal

pub returns : goal.returns
returns c = record {
  one = one_answer
      (record {
        one_litmus = c.one_reading.ensures.one_litmus;
        one_litmus_refusal = c.one_reading.ensures.one_refusal;
        litmus_or_refused = c.one_reading.ensures.text_or_refused;
        one_model = c.one_reading-2.ensures.one_model;
        one_model_refusal = c.one_reading-2.ensures.one_refusal;
        model_or_refused = c.one_reading-2.ensures.text_or_refused;
        one_trace = c.one_outcome.ensures.one_trace;
        one_call = c.one_outcome.ensures.one_refusal;
        events_or_refused = c.one_outcome.ensures.events_or_refused;
        one_crash = c.one_crash.ensures;
        one_judgement = c.one_judgement.ensures;
        one_log = c.one_log.ensures;
        one_log_refusal = c.one_refusal.ensures.refusal;
        log_or_refused = c.one_refusal.ensures.text_or_refused;
        one_check = c.one_judgement-2.ensures;
        one_line = c.too_many_or_few.ensures.one_line;
        one_list = c.kept_pairs_say_what_is_reached.ensures.one_list;
      })
      c.one_command.ensures.one;
}
