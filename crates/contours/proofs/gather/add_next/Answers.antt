-- `contours::gather::add_next` meets its contract: a contour of fewer than three vertices leaves all as it was, another is added. Assumes nothing.
use Rattle.contours.specs.Ground.{mesh_at}
use Rattle.contours.proofs.Gathers.{skipped_answer, skipped_words, cut_answer, cut_words_lem}
use Rattle.contours.proofs.gather.add_next.Goals as goal

pub returns-then-c-lt-LEAST_VERTICES : goal.returns-then-c-lt-LEAST_VERTICES
returns-then-c-lt-LEAST_VERTICES c = record {
  answer = skipped_answer c.requires c.if-c-lt-LEAST_VERTICES.true;
  words = skipped_words c.requires c.if-c-lt-LEAST_VERTICES.true;
}

pub add_contour-requires : goal.add_contour-requires
add_contour-requires c = c.requires.ready c.if-c-lt-LEAST_VERTICES.false

pub returns : goal.returns
returns c =
    let m = mesh_at c.args.work.now c.args.g c.args.nv c.args.np in
    record {
      answer = cut_answer c.args.nvp c.args.numbers.now c.args.c m c.if-c-lt-LEAST_VERTICES.false c.add_contour.ensures.answer;
      words = cut_words_lem c.args.nvp c.args.numbers.now c.args.c m c.if-c-lt-LEAST_VERTICES.false c.args.g c.args.work.now
          c.add_contour.ensures.words;
    }
