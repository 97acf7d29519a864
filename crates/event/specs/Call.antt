-- The call that an event is.
use Rattle.rules.specs.Call.{Call, normal, high, ask, off, reserve, until}
use Rattle.event.specs.declared.Event.{Event}
use Rattle.event.specs.declared.Event.TheVariants.{Normal, High, Off, Reserve, Until}

abbrev pub call_of : Event → Call
call_of (Normal t k b) = ask normal t k b
call_of (High t k b) = ask high t k b
call_of (Off t k) = off t k
call_of (Reserve t k n b) = reserve t k n b
call_of (Until t) = until t
