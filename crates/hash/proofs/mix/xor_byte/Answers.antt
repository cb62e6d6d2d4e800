-- The xor is its remainder form, since the byte is below 256.
use Rattle.hash.proofs.Xor.{xor_remainder}
use Rattle.hash.proofs.mix.xor_byte.Goals as goal

pub returns : goal.returns
returns c = cc (xor_remainder c.args.h c.args.b c.ranges.b.fits)
