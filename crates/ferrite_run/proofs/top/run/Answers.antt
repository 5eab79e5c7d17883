use Rattle.std.proofs.Common.{◌≡◌, ◌∙◌}
use Rattle.fer_outside.specs.Causes.{Rose}
use Rattle.ferrite_run.specs.Choices.{choice_words}
use Rattle.ferrite_run.proofs.Keeping.{unasked_keeps, none_said}
use Rattle.ferrite_run.proofs.Ending.{runs}
use Rattle.ferrite_run.proofs.top.run.Goals as goal

pub returns-in-Ok : goal.returns-in-Ok
returns-in-Ok g c =
    let now = g.L.Library.faults c.deliver.new.library in
    let delivered = c.deliver.ensures.delivered in
    let (done, is, says) = c.in-Ok.ensures.answered in
    let end = runs (g.L.Library.held c.args.library.now) (g.L.Library.held c.answer_words.new.library) (g.L.Library.held c.deliver.new.library)
    (g.L.Library.faults c.args.library.now) (g.L.Library.faults c.answer_words.new.library) now
    (g.K.Sink.written c.args.out.now) (g.K.Sink.written c.deliver.new.out) (Rose (g.K.Sink.faults c.args.out.now) (g.K.Sink.faults c.deliver.new.out))
    (c.deliver.new.out ≡ c.args.out.now) c.args.words.now (choice_words c.args.branchers.items) c.in-Ok.said done c.deliver.result
    c.answer_words.ensures.stays c.answer_words.ensures.never_falls c.deliver.ensures.never_falls is says delivered in
    record {
      answered = end.answered;
      cut_short = end.cut_short;
      out_of_memory = λ e. (end.wanting e).1;
      nothing_kept = λ e. (end.wanting e).0;
      untouched = λ none.
          let silent = none_said c.in-Ok.said.kept (says.keeps ∙ unasked_keeps _ _ _ _ done none is) in
          c.deliver.ensures.untouched silent ∙ c.answer_words.ensures.untouched none;
      complete = end.complete;
      known = end.known;
      faults_stay = end.stay;
      write_faults_stay = c.deliver.ensures.write_faults_stay;
    }
