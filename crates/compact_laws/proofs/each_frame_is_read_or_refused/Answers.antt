use Rattle.compact_laws.proofs.Either.{read_or_refused, never_both, one_fault as fault_is_one, one_reading as reading_is_one}
use Rattle.compact_laws.proofs.each_frame_is_read_or_refused.Goals as goal

pub returns : goal.returns
returns c = record { outcome = read_or_refused; apart = never_both; one_fault = fault_is_one; one_reading = reading_is_one }
