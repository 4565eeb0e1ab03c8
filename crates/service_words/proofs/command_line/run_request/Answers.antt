use Rattle.std.proofs.Common.{ap, refl, sym, ◌∙◌}
use Rattle.clap.specs.Words.{found_of}
use Rattle.clap.proofs.WalkLemmas.{first_value-rows, one_text-rows}
use Rattle.service_words.proofs.Asking.{number-given, word-or-nothing}
use Rattle.service_words.proofs.Refusing.{keeps-by, passed-on, same-fault}
use Rattle.service_words.proofs.command_line.run_request.Goals as goal

pub returns-clause-refused : goal.returns-clause-refused
returns-clause-refused c =
    let found = found_of c.args.matches.now in
    sym (same-fault _ _ _ _ (c.get_str.ensures ∙ first_value-rows found _) c.wants_memory.ensures) ∙ c.in_ok-keeping.ensures.refused

pub returns-in_err-keeping-clause-refused : goal.returns-in_err-keeping-clause-refused
returns-in_err-keeping-clause-refused c =
    let found = found_of c.args.matches.now in
    passed-on _ _ c.from_residual.result
    (sym (same-fault _ _ _ _ (c.get_str.ensures ∙ first_value-rows found _) c.wants_memory.ensures) ∙ c.in_err-keeping.ensures.refused)
    c.from_residual.ensures.1

pub returns-clause-written : goal.returns-clause-written
returns-clause-written c =
    let found = found_of c.args.matches.now in
    record {
      plan_is = ap (λ s. s.now) c.unwrap_or.ensures ∙ word-or-nothing c.get_str-2.result _ _ (c.get_str-2.ensures ∙ first_value-rows found _) refl;
      keeping_is = keeps-by c.in_ok-keeping.keeping _ _ _ _ (c.get_str.ensures ∙ first_value-rows found _) c.wants_memory.ensures c.in_ok-keeping.ensures.kept;
      events_are = record {
        given = c.get_one.result;
        given_is = number-given _ _ c.get_one.result (one_text-rows found _) c.get_one.ensures.none c.get_one.ensures.value;
        number_is = c.number_of-events.ensures.written;
      };
      connections_are = record {
        given = c.get_one-2.result;
        given_is = number-given _ _ c.get_one-2.result (one_text-rows found _) c.get_one-2.ensures.none c.get_one-2.ensures.value;
        number_is = c.number_of.ensures.written;
      };
      keep_is = record {
        given = c.get_one-3.result;
        given_is = number-given _ _ c.get_one-3.result (one_text-rows found _) c.get_one-3.ensures.none c.get_one-3.ensures.value;
        number_is = c.keep_of.ensures.written;
      };
      idle_is = record {
        given = c.get_one-4.result;
        given_is = number-given _ _ c.get_one-4.result (one_text-rows found _) c.get_one-4.ensures.none c.get_one-4.ensures.value;
        number_is = c.number_of-2.ensures.written;
      };
      grace_is = record {
        given = c.get_one-5.result;
        given_is = number-given _ _ c.get_one-5.result (one_text-rows found _) c.get_one-5.ensures.none c.get_one-5.ensures.value;
        number_is = c.number_of-3.ensures.written;
      };
      show_is = record {
        left_out = λ e. c.shows.ensures.left_out (one_text-rows found _ ∙ e);
        on = λ e. c.shows.ensures.on (one_text-rows found _ ∙ e);
        off = λ e. c.shows.ensures.off (one_text-rows found _ ∙ e);
      };
      answer_text_is = c.get_str-3.ensures ∙ first_value-rows found _;
      http_is = c.get_str-4.ensures ∙ first_value-rows found _;
      http_names_are = c.get_str-5.ensures ∙ first_value-rows found _;
    }
