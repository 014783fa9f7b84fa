-- A refusal that converts to one refusal of a call has one reply. Assumes nothing.
use Rattle.std.proofs.Common.{◌≡◌, Ok, Err, Result, ap, ◌∙◌}
use Rattle.calls.specs.Replying.{of_grant, IsReplyTo}
use Rattle.calls.specs.declared.refusal.CallRefusal.{CallRefusal}
use Rattle.calls.specs.declared.reply.Reply.{Reply}
use Rattle.calls.specs.declared.reply.Reply.TheVariants.{Refused}

module _ {E : Type 0} (as_call : E → CallRefusal) where
  -- no other is made of it
  pub one_reply : (given : Result (Unit {0}) E) (reply : Reply) → IsReplyTo (λ e r. r ≡ as_call e) given reply → reply ≡ of_grant as_call given
  one_reply (Ok done) reply k = k
  one_reply (Err e) reply k = k.2 ∙ ap Refused k.1
