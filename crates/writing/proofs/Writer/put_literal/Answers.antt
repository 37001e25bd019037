-- A word, and bytes. Assumes nothing.
use Rattle.std.proofs.Common.{◌∙◌}
use Rattle.literals.specs.LiteralLaws.{literal_word_value}
use Rattle.writing.proofs.Writer.put_literal.Goals as goal

pub put_bytes-self-requires : goal.put_bytes-self-requires
put_bytes-self-requires c =
    (c.requires.0, rw c.put.ensures.pool c.requires.2)

pub returns : goal.returns
returns c =
    let h = c.put.ensures.head in
    let k = c.put.ensures.keeps in
    record {
      put = record {
        answer = rw (h.answer, c.put_bytes-self.ensures.0);
        table = h.table ∙ rw (c.literal_word.ensures, literal_word_value c.args.input.now c.args.self.now.at.off c.args.l c.requires.0.inside);
        pool = rw (← c.put.ensures.pool) c.put_bytes-self.ensures.1;
      };
      keeps = record { table = k.table; pool = k.pool; list = k.list };
    }
