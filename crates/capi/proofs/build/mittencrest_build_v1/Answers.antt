-- `capi::build::mittencrest_build_v1` meets its contract: it is the build's, with the header and the reply as numbers. Assumes nothing.
use mathlib.Core.Path.{ap, ◌∙◌}
use Rattle.rules.specs.Replies.{Reply, number_of_reply}
use Rattle.rules.specs.Build.{answer}
use Rattle.rules.specs.declared.Answer.{Answer}
use Rattle.capi.specs.Numbers.{header_words, answer_words}
use Rattle.capi.proofs.Written.{header_back}
use Rattle.capi.proofs.build.mittencrest_build_v1.Goals as goal

pub returns : goal.returns
unfolding answer
returns c =
    let e = c.into_polygon_mesh-a.ensures.answer in
    let q = ap (λ (a : Answer). a.reply) e in
    record {
      result = c.put_answer.ensures.0 ∙ ap number_of_reply q;
      answer = c.put_answer.ensures.1 ∙ ap (λ (y : Reply). answer_words y c.args.inches) q;
      header = c.put_header.ensures ∙ ap header_words (ap (λ (a : Answer). a.header) e ∙ c.header_from-given.ensures) ∙ header_back c.args.inches c.args.header.now c.put_header-arg-1.given.0.1;
      words = c.into_polygon_mesh-a.ensures.words;
    }
