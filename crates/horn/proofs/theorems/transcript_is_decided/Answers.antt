use Rattle.horn.proofs.Transcripts.{one_transcript}
use Rattle.horn.proofs.theorems.transcript_is_decided.Goals as goal

pub returns : goal.returns
returns c = one_transcript
