-- Clause lines and a query line print at most one list of lines, since each is read in one way.
use Rattle.std.proofs.Common.{◌≡◌, sym, ◌∙◌, subst}
use Rattle.horn.specs.Transcript.{Prints}
use Rattle.horn.proofs.Transcripts.{one_transcript}
use Rattle.sheets.specs.Theorems.{OnePrinted}

pub one_printed : OnePrinted
one_printed lines line fuel outs outs' a b =
    let d = sym a.clauses_read ∙ b.clauses_read in
    let e = sym a.query_read ∙ b.query_read in
    let same_deck : a.deck ≡ b.deck = cc in
    let same_query : a.query ≡ b.query = cc in
    one_transcript b.deck b.query fuel 0 outs outs' (subst (λ q. Prints b.deck q fuel 0 outs) same_query (subst (λ deck. Prints deck a.query fuel 0 outs) same_deck a.prints)) b.prints
