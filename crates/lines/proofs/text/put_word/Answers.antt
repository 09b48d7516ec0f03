use Rattle.std.proofs.Common.{◌≡◌, length, ◌∙◌, ap, arith}
use Rattle.lines.proofs.Line.{word_put}
use Rattle.lines.proofs.text.put_word.Goals as goal

pub returns : goal.returns
returns g c =
    let is = c.as_bytes-digits.ensures.value ∙ c.format.ensures.text in
    let long : length c.as_bytes-digits.result.now ≡ length c.format.result.now = ap length c.as_bytes-digits.ensures.value in
    let w = word_put c.args.out.now _ (g.N.Integer.text c.args.n) c.args.at _ c.args.end (c.copy_from_slice.ensures.after ∙ is) (ap length is) (omega (arith, c.requires, long, c.format.ensures.fits)) in
    (w.0, omega (arith, long, c.format.ensures.fits), w.1)
