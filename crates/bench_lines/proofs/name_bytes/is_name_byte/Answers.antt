use Rattle.std.proofs.Common.{refl, slice_index_or, false}
use Rattle.std.proofs.lemmas.Bool.{agree_below_at}
use Rattle.scan_model.specs.Words.{is_name_byte}
use Rattle.bench_lines.specs.declared.name_bytes.TheConstants.{IS_NAME_BYTE}
use Rattle.bench_lines.proofs.name_bytes.is_name_byte.Goals as goal

pub returns : goal.returns
returns c = agree_below_at (λ b. slice_index_or IS_NAME_BYTE b false) is_name_byte 256 c.args.b refl c.ranges.b.fits
