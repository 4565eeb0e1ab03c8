-- What proofs use beside the page Event.
use Rattle.mllp_frame.specs.declared.FrameEvent.{FrameEvent}
use Rattle.mllp_frame.specs.declared.FrameEvent.TheVariants.{Block, Broken}
use Rattle.mllp_frame.specs.Event.{FramingEvent, block, broken}

-- the event that the program's event means
abbrev pub event_of : FrameEvent → FramingEvent
event_of (Block bytes) = block bytes.items
event_of (Broken cause) = broken cause
