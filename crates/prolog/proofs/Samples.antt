-- What stands for a few lines.
use Rattle.std.proofs.Common.{◌≡◌, [], ◌∷◌, ◌++◌, codes, refl}
use Rattle.std.specs.Fmt.{digits}
use Rattle.prolog.specs.declared.verdict.Verdict.TheVariants.{Refused}
use Rattle.prolog.specs.Proofread.{proof_text, verdict_of}

fact : proof_text 1 (codes "C,0,half/2,ka,ka.half") ≡ codes "half(ka, 'ka.half')." ++ 10 ∷ []
fact = refl

rule : proof_text 2 (codes "C,2,pair/3,X,Y,lig/2,H,Y,half/2,X,H,g") ≡ codes "pair(X, Y, lig(H, Y)) :- half(X, H), g." ++ 10 ∷ []
rule = refl

query : proof_text 3 (codes "Q,1,pair/3,G,ya,L") ≡ codes "% ?- pair(G, ya, L)." ++ 10 ∷ []
query = refl

refused : proof_text 12 (codes "C,0,X") ≡ codes "% 12: R,6,2,3,0" ++ 10 ∷ []
unfolding digits
refused = refl

verdict : verdict_of (codes "Q,0") ≡ Refused
verdict = refl
